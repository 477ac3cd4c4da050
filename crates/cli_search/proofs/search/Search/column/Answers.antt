-- `column` lies in the buffer.
use Rattle.std.proofs.Common.{◌*◌, length, arith}
use Rattle.cli_search.proofs.Asked.{inside}
use Rattle.cli_search.proofs.search.Search.column.Goals as goal

pub slice_bounds-result-end : goal.slice_bounds-result-end
slice_bounds-result-end c =
    let s = c.args.self.now in
    let h = inside s.layout.instances (length s.names.now) (s.lookups * 2) c.args.n s.layout.rows (length s.columns.now) c.requires s.room in
    omega arith
