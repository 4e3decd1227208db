-- The search by halving in the table of successors: its loop.
use mathlib.Core.Path.{◌≡◌, refl, sym, ap, ◌∙◌}
use mathlib.Core.List.{List, []}
use Prim.Native.Nat.{ℕ, zero, suc, ◌+◌, ◌-◌, ◌/◌, ◌≤◌, ◌<◌}
use native.Mathlib.Omega.{arith}
use borrow.Author.Tests.{lt-ltb, le-ltb}
use lib.ListN.{length, get_or}
use Rattle.model.specs.Row.{Succ, owner_of}
use Rattle.visible.specs.Entries.{narrowed}

module _ (n id : ℕ) (succs : List Succ) (low high : ℕ) (h : low < high) where
  pub go_right : owner_of (get_or succs (low + (high - low) / 2) []) < id → narrowed (suc n) id succs low high ≡ narrowed n id succs (low + (high - low) / 2 + 1) high
  unfolding narrowed
  go_right l = rw (lt-ltb low high h, lt-ltb (owner_of (get_or succs (low + (high - low) / 2) [])) id l)

  pub go_left : id ≤ owner_of (get_or succs (low + (high - low) / 2) []) → narrowed (suc n) id succs low high ≡ narrowed n id succs low (low + (high - low) / 2)
  unfolding narrowed
  go_left l = rw (lt-ltb low high h, le-ltb (owner_of (get_or succs (low + (high - low) / 2) [])) id l)

pub stop : (n id : ℕ) (succs : List Succ) (low high : ℕ) → high ≤ low → narrowed n id succs low high ≡ low
unfolding narrowed
stop zero id succs low high h = refl
stop (suc n) id succs low high h = rw (le-ltb low high h)

pub record Halving (id : ℕ) (succs : List Succ) (low high : ℕ) : Type 0 where
  pub within : high ≤ length succs
  pub steps : ℕ
  pub enough : high - low ≤ steps
  pub rest : narrowed (length succs) id succs 0 (length succs) ≡ narrowed steps id succs low high

module _ {id : ℕ} {succs : List Succ} where
  module _ {low high : ℕ} (c : Halving id succs low high) where
    pub halving_right : low < high → owner_of (get_or succs (low + (high - low) / 2) []) < id → Halving id succs (low + (high - low) / 2 + 1) high
    halving_right h l =
        let n = c.steps - 1 in
        let e : c.steps ≡ suc n = omega (arith, c.enough) in
        record {
          within = c.within;
          steps = n;
          enough = omega (arith, c.enough);
          rest = c.rest ∙ ap (λ (k : ℕ). narrowed k id succs low high) e ∙ go_right n id succs low high h l;
        }

    pub halving_left : low < high → id ≤ owner_of (get_or succs (low + (high - low) / 2) []) → Halving id succs low (low + (high - low) / 2)
    halving_left h l =
        let n = c.steps - 1 in
        let e : c.steps ≡ suc n = omega (arith, c.enough) in
        record {
          within = omega (arith, c.within);
          steps = n;
          enough = omega (arith, c.enough);
          rest = c.rest ∙ ap (λ (k : ℕ). narrowed k id succs low high) e ∙ go_left n id succs low high h l;
        }

    pub halving_end : high ≤ low → low ≡ narrowed (length succs) id succs 0 (length succs)
    halving_end h = sym (c.rest ∙ stop c.steps id succs low high h)
