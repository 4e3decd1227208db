-- Where the document knows no id of the batch, check 5 gives the same without the document.
use Prim.Native.Nat.{ℕ}
use mathlib.Core.Path.{◌≡◌, refl, sym}
use mathlib.Core.Bool.{Bool, true, false, not, ◌||◌}
use mathlib.Core.List.{List, []}
use lib.Dec.{T, eqb→eq, not_T}
use lib.ListN.{get_or}
use Rattle.model.specs.Basic.{any}
use Rattle.model.specs.Row.{Row, Op, Succ, id_of}
use Rattle.laws.proofs.Tests.{eq→eqb, is_false, of-true}
use Rattle.laws.proofs.Members.{Mem, any-from, any-in}
use Rattle.refusal.specs.TakenIds.{has_word, word_in, taken}
use Rattle.refusal.specs.Known.{meets, unknown}
use Rattle.refusal.specs.Failing.{fails}
use Rattle.refusal.specs.CheckedBatch.{ops_refusal}
use Rattle.refusal.proofs.Firsts.{after-ext}

-- an operation's id is no piece's word where no piece's word is an operation's id
apart : (f : ℕ) (ps : List (List ℕ)) (b : List Op) → meets f ps b ≡ false → {o : Op} → Mem o b → word_in f (id_of o) ps ≡ false
unfolding meets word_in has_word
apart f ps b e {o} m = is_false (any (has_word f (id_of o)) ps) (not_T (any (has_word f (id_of o)) ps) none)
  where
    none : T (any (has_word f (id_of o)) ps) → ⊥
    none t =
        let r = any-from (has_word f (id_of o)) ps t in
        let q : get_or r.0 f 0 ≡ id_of o = sym (eqb→eq (id_of o) (get_or r.0 f 0) r.2) in
        let inner : T (any (has_word 0 (get_or r.0 f 0)) b) = any-in (has_word 0 (get_or r.0 f 0)) b m (eq→eqb (get_or r.0 f 0) (id_of o) q) in
        rw e at (any-in (λ p. word_in 0 (get_or p f 0) b) ps r.1 inner)

module _ (rs : List Row) (ss : List Succ) (b : List Op) (u : unknown rs ss b ≡ true) where
  neither : (meets 0 rs b ≡ false) × (meets 1 ss b ≡ false)
  unfolding unknown
  neither = go (meets 0 rs b) (meets 1 ss b) u
    where
      go : (x y : Bool) → not (x || y) ≡ true → (x ≡ false) × (y ≡ false)
      go true y e = absurd (of-true e)
      go false true e = absurd (of-true e)
      go false false e = (refl, refl)

  alone : (earlier : List Op) (o : Op) → Mem o b → fails 5 rs ss b earlier o ≡ fails 5 [] [] b earlier o
  unfolding fails taken word_in
  alone earlier o m = rw (apart 0 rs b neither.0 m, apart 1 ss b neither.1 m)

  pub fresh : ops_refusal [] [] b 5 ≡ ops_refusal rs ss b 5
  unfolding ops_refusal
  fresh = sym (after-ext 5 (fails 5 rs ss b) (fails 5 [] [] b) [] b alone)
