mod Sides
mod Words
