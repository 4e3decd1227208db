-- What is still to come of a list's walk: the next row, and then the rest, as the code has it before it.
use mathlib.Core.Path.{◌≡◌, refl, sym, ap, ap₂, ◌∙◌}
use mathlib.Core.Bool.{true, false}
use mathlib.Core.List.{List, [], ◌∷◌, ◌++◌, map-append}
use Prim.Native.Nat.{ℕ, zero, suc, ◌+◌, ◌-◌, ◌*◌, ◌≤◌, ◌<◌}
use native.Mathlib.Omega.{arith}
use lib.ListN.{length, get_or, drop}
use Rattle.model.specs.Sizes.{row_words, op_words}
use Rattle.model.specs.Row.{Row, id_of, is_insert}
use Rattle.laws.proofs.Members.{here, not-nil, on-mem, on-append, All}
use Rattle.laws.proofs.Untangle.{Event, old, new, updates, waiting}
use Rattle.laws.proofs.UntangleWalk.{walk_rows}
use Rattle.laws.proofs.Parts.{drop_here}
use Rattle.batch.specs.Parts.{part}
use Rattle.batch.specs.Walk.{row_first, wait_first, lower, fall, stacked, top_of, rows_at, cut_rows, doc_from, new_rows_of, rest_from, Listed}
use Rattle.batch.proofs.WalkTests.{doc-here}
use Rattle.batch.proofs.WalkSteps.{step-keep, step-update, step-place, step-open, step-pass}
use Rattle.batch.proofs.NewRows.{length-new, new-at}

pub walk_at : (news : List Row) {n m : ℕ} {up up' st st' doc doc' : List Row} → n ≡ m → up ≡ up' → st ≡ st' → doc ≡ doc' → walk_rows news n up st doc ≡ walk_rows news m up' st' doc'
walk_at news a b c d = rw (a, b, c, d)

cut-here : (u e : ℕ) (news : List Row) → u < e → e ≤ length news → cut_rows u e news ≡ get_or news u [] ∷ cut_rows (u + 1) e news
cut-here u e news h l =
    let n : e - u ≡ suc (e - (u + 1)) = omega arith in
    let d : drop u news ≡ get_or news u [] ∷ drop (u + 1) news = drop_here news u [] (omega arith) in
    rw (n, d)

pub cut-none : (u e : ℕ) (news : List Row) → e ≤ u → cut_rows u e news ≡ []
cut-none u e news h = let n : e - u ≡ 0 = omega arith in rw n

module _ (rows : List ℕ) (a z : ℕ) (ops group tags : List ℕ) where
  abbrev pub news : List Row
  news = new_rows_of ops group

  abbrev pub rest : List ℕ → ℕ → ℕ → ℕ → ℕ → ℕ → List Event
  rest stack row update end depth out = rest_from rows z ops group stack row update end depth out

  -- ── what is next
  module _ (stack : List ℕ) (row update end depth out : ℕ) (m : out < length group) where
    -- a new row needs a slot of the output, an old one a row
    less-new : length group - out + (z - row) ≡ suc (length group - (out + 1) + (z - row))
    less-new = omega arith

    less-old : row < z → length group - out + (z - row) ≡ suc (length group - out + (z - (row + 1)))
    less-old h = omega arith

    update-is : update < end → end ≤ length group → cut_rows update end news ≡ part row_words ops (get_or group update 0 * op_words) ∷ cut_rows (update + 1) end news
    update-is h l =
        cut-here update end news h (omega (arith, length-new ops group))
        ∙ ap (λ (r : Row). r ∷ cut_rows (update + 1) end news) (new-at ops group update (omega arith))

    pub rest-keep : update < end → end ≤ length group → row < z → row_first (part row_words ops (get_or group update 0 * op_words)) (doc_from rows z row) ≡ true
        → rest stack row update end depth out ≡ old (part row_words rows (row * row_words)) ∷ rest stack (row + 1) update end depth out
    unfolding rest_from
    rest-keep h l k e =
        let d : Row = part row_words rows (row * row_words) in
        let u : Row = part row_words ops (get_or group update 0 * op_words) in
        walk_at news (less-old k) (update-is h l) refl (doc-here rows z row k)
        ∙ step-keep news (length group - out + (z - (row + 1))) u d (cut_rows (update + 1) end news) (rows_at news (stacked stack depth)) (doc_from rows z (row + 1)) (ap (row_first u) (sym (doc-here rows z row k)) ∙ e)
        ∙ ap (λ (up : List Row). old d ∷ walk_rows news (length group - out + (z - (row + 1))) up (rows_at news (stacked stack depth)) (doc_from rows z (row + 1))) (sym (update-is h l))

    pub rest-update : update < end → end ≤ length group → row_first (part row_words ops (get_or group update 0 * op_words)) (doc_from rows z row) ≡ false
        → rest stack row update end depth out ≡ new (part row_words ops (get_or group update 0 * op_words)) ∷ rest stack row (update + 1) end depth (out + 1)
    unfolding rest_from
    rest-update h l e =
        walk_at news less-new (update-is h l) refl refl
        ∙ step-update news (length group - (out + 1) + (z - row)) (part row_words ops (get_or group update 0 * op_words)) (cut_rows (update + 1) end news) (rows_at news (stacked stack depth)) (doc_from rows z row) e

  -- ── an element is put out: what waits for it is known, and its inserts lie on top
  module _ (l : Listed rows a z ops group tags) where
    opened-waits : (e : ℕ) (under over : List ℕ) → over ≡ fall (lower (e * 2 + 1) tags) (lower (e * 2 + 2) tags - lower (e * 2 + 1) tags) ++ under → waiting e news ++ rows_at news under ≡ rows_at news over
    opened-waits e under over p =
        let run : List ℕ = fall (lower (e * 2 + 1) tags) (lower (e * 2 + 2) tags - lower (e * 2 + 1) tags) in
        ap (λ (w : List Row). w ++ rows_at news under) (l.waits e) ∙ sym (ap (rows_at news) p ∙ map-append (λ (j : ℕ). get_or news j []) run under)

    fall-in : (from n b : ℕ) → from + n ≤ b → All (λ j. j < b) (fall from n)
    fall-in from zero b h = λ j m. absurd (not-nil m)
    fall-in from (suc n) b h = λ j m. on-mem m (λ e. omega arith) (fall-in from n b (omega arith) j)

    pub opened_in : (e : ℕ) (under over : List ℕ) → over ≡ fall (lower (e * 2 + 1) tags) (lower (e * 2 + 2) tags - lower (e * 2 + 1) tags) ++ under → All (λ j. j < length group) under → All (λ j. j < length group) over
    opened_in e under over p a j m =
        let q = lower (e * 2 + 1) tags in
        let r = lower (e * 2 + 2) tags in
        on-append (fall q (r - q)) (rw p at m) (fall-in q (r - q) (length group) (omega (arith, l.up_to (e * 2 + 1), l.up_to (e * 2 + 2))) j) (a j)

    module _ (stack : List ℕ) (row update end depth out : ℕ) (m : out < length group) (h : end ≤ update) (stack₂ : List ℕ) (depth₂ : ℕ) where
      pub rest-place : (under : List ℕ) → All (λ j. j < length group) (stacked stack depth) → stacked stack depth ≡ top_of stack depth ∷ under
          → wait_first (rows_at news (stacked stack depth)) (doc_from rows z row) ≡ true
          → (e : ℕ) → e ≡ id_of (part row_words ops (get_or group (top_of stack depth) 0 * op_words))
          → stacked stack₂ depth₂ ≡ fall (lower (e * 2 + 1) tags) (lower (e * 2 + 2) tags - lower (e * 2 + 1) tags) ++ under
          → rest stack row update end depth out ≡ new (part row_words ops (get_or group (top_of stack depth) 0 * op_words)) ∷ rest stack₂ row (lower (e * 2) tags) (lower (e * 2 + 1) tags) depth₂ (out + 1)
      unfolding rest_from
      rest-place under b p w e q o =
          let n : ℕ = length group - (out + 1) + (z - row) in
          let s : Row = part row_words ops (get_or group (top_of stack depth) 0 * op_words) in
          let doc : List Row = doc_from rows z row in
          let top-row : get_or news (top_of stack depth) [] ≡ s = new-at ops group (top_of stack depth) (b (top_of stack depth) (rw p (here refl))) in
          let st : rows_at news (stacked stack depth) ≡ s ∷ rows_at news under = ap (rows_at news) p ∙ ap (λ (r : Row). r ∷ rows_at news under) top-row in
          walk_at news (less-new stack row update end depth out m) (cut-none update end news h) st refl
          ∙ step-place news n s (rows_at news under) doc (ap (λ (k : List Row). wait_first k doc) (sym st) ∙ w)
          ∙ ap (λ (i : ℕ). new s ∷ walk_rows news n (updates i news) (waiting i news ++ rows_at news under) doc) (sym q)
          ∙ ap₂ (λ (up k : List Row). new s ∷ walk_rows news n up k doc) (l.updated e) (opened-waits e under (stacked stack₂ depth₂) o)

      pub rest-open : row < z → wait_first (rows_at news (stacked stack depth)) (doc_from rows z row) ≡ false → is_insert (part row_words rows (row * row_words)) ≡ true
          → (e : ℕ) → e ≡ id_of (part row_words rows (row * row_words))
          → stacked stack₂ depth₂ ≡ fall (lower (e * 2 + 1) tags) (lower (e * 2 + 2) tags - lower (e * 2 + 1) tags) ++ stacked stack depth
          → rest stack row update end depth out ≡ old (part row_words rows (row * row_words)) ∷ rest stack₂ (row + 1) (lower (e * 2) tags) (lower (e * 2 + 1) tags) depth₂ out
      unfolding rest_from
      rest-open k w i e q o =
          let n : ℕ = length group - out + (z - (row + 1)) in
          let d : Row = part row_words rows (row * row_words) in
          let st : List Row = rows_at news (stacked stack depth) in
          let doc : List Row = doc_from rows z (row + 1) in
          walk_at news (less-old stack row update end depth out m k) (cut-none update end news h) refl (doc-here rows z row k)
          ∙ step-open news n d st doc (ap (wait_first st) (sym (doc-here rows z row k)) ∙ w) i
          ∙ ap (λ (j : ℕ). old d ∷ walk_rows news n (updates j news) (waiting j news ++ st) doc) (sym q)
          ∙ ap₂ (λ (up g : List Row). old d ∷ walk_rows news n up g doc) (l.updated e) (opened-waits e (stacked stack depth) (stacked stack₂ depth₂) o)

    pub rest-pass : (stack : List ℕ) (row update end depth out : ℕ) → out < length group → end ≤ update → row < z → is_insert (part row_words rows (row * row_words)) ≡ false
        → rest stack row update end depth out ≡ old (part row_words rows (row * row_words)) ∷ rest stack (row + 1) update end depth out
    unfolding rest_from
    rest-pass stack row update end depth out m h k i =
        let n : ℕ = length group - out + (z - (row + 1)) in
        let d : Row = part row_words rows (row * row_words) in
        let st : List Row = rows_at news (stacked stack depth) in
        let doc : List Row = doc_from rows z (row + 1) in
        walk_at news (less-old stack row update end depth out m k) (cut-none update end news h) refl (doc-here rows z row k)
        ∙ step-pass news n d st doc i
        ∙ ap (λ (up : List Row). old d ∷ walk_rows news n up st doc) (sym (cut-none update end news h))
