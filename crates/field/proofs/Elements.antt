-- Words and elements of 𝔾, in both directions, beside Field's laws of `el`: what an operation answers is below P, an element's
-- number is what the operation on numbers answers, and a number below P is known by its element.
use Rattle.std.proofs.Common.{◌≡◌, ℕ, zero, suc, ◌+◌, ◌-◌, ◌*◌, ◌%◌, ◌^◌, ◌<◌, sym, ap, ◌∙◌, ap₂, mod-lt, pow-suc, lit<}
use native.Mathlib.Nat.{pow-zero}
use Rattle.field.specs.Prime.{P, field_order}
use Rattle.field.specs.Algebra.{pow, mul_comm}
use Rattle.field.specs.ModP as ModP
use Rattle.field.specs.Field.{add_p, sub_p, neg_p, mul_p, pow_p, inv_p, 𝔾, el, val, P_pos, order_pos, pow_p_is, el_val, val_el, el_zero, el_one, el_add, el_sub, el_neg, el_mul, el_inv}

-- ---- the answers are reduced

pub add_p_lt : (a b : ℕ) → add_p a b < P
add_p_lt a b = mod-lt (a + b) P_pos

pub sub_p_lt : (a b : ℕ) → sub_p a b < P
sub_p_lt a b = mod-lt (a + (P - b % P)) P_pos

pub neg_p_lt : (a : ℕ) → neg_p a < P
neg_p_lt a = mod-lt (P - a % P) P_pos

pub mul_p_lt : (a b : ℕ) → mul_p a b < P
mul_p_lt a b = mod-lt (a * b) P_pos

pub pow_p_lt : (a e : ℕ) → pow_p a e < P
pow_p_lt a e = rw (pow_p_is a e) (mod-lt (a ^ e) P_pos)

pub inv_p_lt : (a : ℕ) → inv_p a < P
inv_p_lt a = pow_p_lt a 18446744069414584319

-- ---- numbers to elements

pub el_mod : (n : ℕ) → el (n % P) ≡ el n
unfolding 𝔾 el
el_mod n = ModP.of_mod field_order order_pos n

pub val_el_mod : (n : ℕ) → val (el n) ≡ n % P
val_el_mod n = ap val (sym (el_mod n)) ∙ val_el (n % P) (mod-lt n P_pos)

pub el_injective : (x y : ℕ) → x < P → y < P → el x ≡ el y → x ≡ y
el_injective x y hx hy e = sym (val_el x hx) ∙ ap val e ∙ val_el y hy

-- powers as products
pub el_pow : (a e : ℕ) → el (pow_p a e) ≡ pow 𝔾 (el a) e
unfolding pow
el_pow a e = ap el (pow_p_is a e) ∙ el_mod (a ^ e) ∙ go e
  where
    go : (n : ℕ) → el (a ^ n) ≡ pow 𝔾 (el a) n
    go zero = ap el (pow-zero a) ∙ el_one
    go (suc n) =
        ap el (pow-suc a n) ∙ sym (el_mod (a ^ n * a)) ∙ el_mul (a ^ n) a ∙ mul_comm 𝔾 (el (a ^ n)) (el a)
        ∙ ap (𝔾.mul (el a)) (go n)

-- ---- elements to numbers

pub val_injective : (x y : 𝔾.F) → val x ≡ val y → x ≡ y
val_injective x y e = sym (el_val x) ∙ ap el e ∙ el_val y

pub val_zero : val 𝔾.zero ≡ 0
val_zero = ap val (sym el_zero) ∙ val_el 0 P_pos

pub val_one : val 𝔾.one ≡ 1
val_one = ap val (sym el_one) ∙ val_el 1 (lit< tt)

pub val_add : (x y : 𝔾.F) → val (𝔾.add x y) ≡ add_p (val x) (val y)
val_add x y =
    ap val (ap₂ 𝔾.add (sym (el_val x)) (sym (el_val y)) ∙ sym (el_add (val x) (val y)))
    ∙ val_el (add_p (val x) (val y)) (add_p_lt (val x) (val y))

pub val_sub : (x y : 𝔾.F) → val (𝔾.add x (𝔾.neg y)) ≡ sub_p (val x) (val y)
val_sub x y =
    ap val (ap₂ (λ (u v : 𝔾.F). 𝔾.add u (𝔾.neg v)) (sym (el_val x)) (sym (el_val y)) ∙ sym (el_sub (val x) (val y)))
    ∙ val_el (sub_p (val x) (val y)) (sub_p_lt (val x) (val y))

pub val_neg : (x : 𝔾.F) → val (𝔾.neg x) ≡ neg_p (val x)
val_neg x =
    ap val (ap 𝔾.neg (sym (el_val x)) ∙ sym (el_neg (val x))) ∙ val_el (neg_p (val x)) (neg_p_lt (val x))

pub val_mul : (x y : 𝔾.F) → val (𝔾.mul x y) ≡ mul_p (val x) (val y)
val_mul x y =
    ap val (ap₂ 𝔾.mul (sym (el_val x)) (sym (el_val y)) ∙ sym (el_mul (val x) (val y)))
    ∙ val_el (mul_p (val x) (val y)) (mul_p_lt (val x) (val y))

pub val_inv : (x : 𝔾.F) → val (𝔾.inv x) ≡ inv_p (val x)
val_inv x =
    ap val (ap 𝔾.inv (sym (el_val x)) ∙ sym (el_inv (val x))) ∙ val_el (inv_p (val x)) (inv_p_lt (val x))

pub val_pow : (x : 𝔾.F) (e : ℕ) → val (pow 𝔾 x e) ≡ pow_p (val x) e
val_pow x e =
    ap val (ap (λ (u : 𝔾.F). pow 𝔾 u e) (sym (el_val x)) ∙ sym (el_pow (val x) e)) ∙ val_el (pow_p (val x) e) (pow_p_lt (val x) e)
