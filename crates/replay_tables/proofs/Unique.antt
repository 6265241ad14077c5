-- Two tables that both keep the promise of `records` are one, whatever their length; at the Distributor's and the Redistributors'.
use mathlib.Core.Path.{◌≡◌, sym, ◌∙◌}
use mathlib.Core.List.{List}
use Prim.Native.Nat.{ℕ}
use lib.ListN.{replicate}

pub records_unique : (n : ℕ) (a b : List ℕ) → a ≡ replicate n 0 → b ≡ replicate n 0 → a ≡ b
records_unique n a b h k = h ∙ sym k

pub dist_unique : (a b : List ℕ) → a ≡ replicate 2012 0 → b ≡ replicate 2012 0 → a ≡ b
dist_unique = records_unique 2012

pub redist_unique : (a b : List ℕ) → a ≡ replicate 96 0 → b ≡ replicate 96 0 → a ≡ b
redist_unique = records_unique 96
