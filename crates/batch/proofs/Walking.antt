-- The turns of a list's walk, as the code takes them.
use mathlib.Core.Path.{◌≡◌, refl, sym, ap, ap₂, ◌∙◌}
use mathlib.Core.Bool.{true, false}
use mathlib.Core.List.{List, [], ◌∷◌, ◌++◌, append-nil}
use Prim.Native.Nat.{ℕ, zero, suc, ◌+◌, ◌-◌, ◌*◌, ◌≤◌, ◌<◌}
use native.Mathlib.Numerals.{add-one}
use native.Mathlib.Omega.{arith}
use lib.ListN.{length, get_or, take, set, length-set, length-append, drop_of_length-le}
use lib.Seq.{take_all, length-take-le}
use Rattle.model.specs.Sizes.{row_words, op_words, word_range}
use Rattle.model.specs.Row.{Row, id_of, is_insert}
use Rattle.laws.proofs.Tests.{by_order, of-true}
use Rattle.laws.proofs.Members.{Mem, here, there, not-nil, on-mem, on-append, All, get_or-mem}
use Rattle.laws.proofs.Untangle.{Event, old, new}
use Rattle.laws.proofs.Placing.{news_in, places_in}
use Rattle.batch.specs.Parts.{part}
use Rattle.batch.specs.declared.walk_list.Cursor.{Cursor}
use Rattle.batch.specs.Walk.{row_first, wait_first, lower, fall, stacked, top_of, rows_at, doc_from, new_rows_of, list_out, rest_from, Listed, Walking}
use Rattle.batch.proofs.PlacesRise.{places-length}
use Rattle.batch.proofs.WalkTests.{doc-none, doc-mem, length-doc}
use Rattle.batch.proofs.WalkSteps.{step-none}
use Rattle.batch.proofs.RestOfWalk.{walk_at, cut-none, opened_in, rest-keep, rest-update, rest-place, rest-open, rest-pass}
use Rattle.batch.proofs.NewRows.{length-new, new-at, new_none, new-next}
use Rattle.batch.proofs.Fronts.{put_next, front-next}

-- ── what the code may read
pub some-waits : (news : List Row) (stack : List ℕ) (depth : ℕ) (doc : List Row) → wait_first (rows_at news (stacked stack depth)) doc ≡ true → 0 < depth
some-waits news stack zero doc e = absurd (of-true e)
some-waits news stack (suc k) doc e = omega arith

module _ {rows : List ℕ} {a z : ℕ} {ops group tags : List ℕ} (l : Listed rows a z ops group tags) where
  pub op-small : (j : ℕ) → j < length group → id_of (part row_words ops (get_or group j 0 * op_words)) * 2 + 2 < word_range
  op-small j h =
      let m : Mem (get_or (new_rows_of ops group) j []) (new_rows_of ops group) = get_or-mem (new_rows_of ops group) j [] (omega (arith, length-new ops group)) in
      let k = l.small-new (get_or (new_rows_of ops group) j []) m in
      rw (← new-at ops group j h) k

  pub row_small : {row : ℕ} → a ≤ row → row < z → id_of (part row_words rows (row * row_words)) * 2 + 2 < word_range
  row_small {row} h k = l.small-old (part row_words rows (row * row_words)) (doc-mem rows z a row h k)

module _ (rows : List ℕ) (a z : ℕ) (ops group tags : List ℕ) where
  abbrev rest : List ℕ → ℕ → ℕ → ℕ → ℕ → ℕ → List Event
  rest stack row update end depth out = rest_from rows z ops group stack row update end depth out

  -- ── the state after a turn
  module _ {stack order places : List ℕ} {at : Cursor} (c : Walking rows a z ops group stack order places at) where
    turn-old : (stack₂ : List ℕ) (update₂ end₂ depth₂ : ℕ) → at.row < z → end₂ ≤ length group → All (λ j. j < length group) (stacked stack₂ depth₂) → depth₂ ≤ at.depth + 1 → length stack₂ ≡ length stack
        → (d : Row) → rest stack at.row at.update at.end at.depth at.out ≡ old d ∷ rest stack₂ (at.row + 1) update₂ end₂ depth₂ at.out
        → Walking rows a z ops group stack₂ order places (record { row = (at.row + 1); update = update₂; end = end₂; depth = depth₂; out = at.out })
    turn-old stack₂ update₂ end₂ depth₂ h e i k s d r =
        record {
          row_from = omega (arith, c.row_from);
          row-to = omega arith;
          end-in = e;
          out-in = c.out-in;
          stack-in = i;
          stack-room = omega (arith, c.stack-room);
          numbers = c.numbers;
          spots = c.spots;
          news = c.news ∙ ap (λ (l : List Event). new_rows_of ops (take at.out order) ++ news_in l) r;
          puts =
              c.puts
              ∙ ap (λ (l : List Event). take at.out places ++ places_in at.row l) r
              ∙ ap (λ (k : ℕ). take at.out places ++ places_in k (rest stack₂ (at.row + 1) update₂ end₂ depth₂ at.out)) (sym (add-one at.row));
          chosen = c.chosen;
        }

    turn-new : (stack₂ : List ℕ) (update₂ end₂ depth₂ x : ℕ) → at.out < length group → end₂ ≤ length group → All (λ j. j < length group) (stacked stack₂ depth₂) → depth₂ ≤ at.depth + 1
        → length stack₂ ≡ length stack → Mem x group → rest stack at.row at.update at.end at.depth at.out ≡ new (part row_words ops (x * op_words)) ∷ rest stack₂ at.row update₂ end₂ depth₂ (at.out + 1)
        → Walking rows a z ops group stack₂ (set order at.out x) (set places at.out at.row) (record { row = at.row; update = update₂; end = end₂; depth = depth₂; out = (at.out + 1) })
    turn-new stack₂ update₂ end₂ depth₂ x h e i k s m r =
        let more : List Event = rest stack₂ at.row update₂ end₂ depth₂ (at.out + 1) in
        let p : take (at.out + 1) (set order at.out x) ≡ take at.out order ++ x ∷ [] = put_next order at.out x (omega (arith, c.numbers)) in
        record {
          row_from = c.row_from;
          row-to = c.row-to;
          end-in = e;
          out-in = omega arith;
          stack-in = i;
          stack-room = omega (arith, c.stack-room);
          numbers = simp length-set c.numbers;
          spots = simp length-set c.spots;
          news = c.news ∙ ap (λ (l : List Event). new_rows_of ops (take at.out order) ++ news_in l) r ∙ new-next ops order at.out x (omega (arith, c.numbers)) (news_in more);
          puts = c.puts ∙ ap (λ (l : List Event). take at.out places ++ places_in at.row l) r ∙ front-next places at.out at.row (omega (arith, c.spots)) (places_in at.row more);
          chosen = λ y n. on-append (take at.out order) (rw p at n) (c.chosen y) (λ n₂. on-mem n₂ (λ e. rw e m) (λ n₃. absurd (not-nil n₃)));
        }

  -- ── the turns
  module _ (l : Listed rows a z ops group tags) {stack order places : List ℕ} {at : Cursor} (c : Walking rows a z ops group stack order places at) (m : at.out < length group) where
    abbrev news : List Row
    news = new_rows_of ops group

    abbrev doc : List Row
    doc = doc_from rows z at.row

    pub keeps : at.update < at.end → row_first (part row_words ops (get_or group at.update 0 * op_words)) doc ≡ true → (at.row < z) × Walking rows a z ops group stack order places (record { row = (at.row + 1); update = at.update; end = at.end; depth = at.depth; out = at.out })
    keeps h e =
        let u : Row = part row_words ops (get_or group at.update 0 * op_words) in
        let k : at.row < z = by_order at.row z (λ k. k) (λ k. absurd (of-true (sym (ap (row_first u) (doc-none rows z at.row k)) ∙ e))) in (
          k,
          turn-old c stack at.update at.end at.depth k c.end-in c.stack-in (omega arith) refl (part row_words rows (at.row * row_words)) (rest-keep rows a z ops group tags stack at.row at.update at.end at.depth at.out m h c.end-in k e),
        )

    pub puts-update : at.update < at.end → row_first (part row_words ops (get_or group at.update 0 * op_words)) doc ≡ false
        → Walking rows a z ops group stack (set order at.out (get_or group at.update 0)) (set places at.out at.row) (record { row = at.row; update = (at.update + 1); end = at.end; depth = at.depth; out = (at.out + 1) })
    puts-update h e =
        turn-new c stack (at.update + 1) at.end at.depth (get_or group at.update 0) m c.end-in c.stack-in (omega arith) refl (get_or-mem group at.update 0 (omega (arith, c.end-in)))
        (rest-update rows a z ops group tags stack at.row at.update at.end at.depth at.out m h c.end-in e)

    -- what the code finds when element e is put out
    pub record Opened (under stack₂ : List ℕ) (update₂ end₂ depth₂ e : ℕ) : Type 0 where
      pub updates-from : update₂ ≡ lower (e * 2) tags
      pub updates-to : end₂ ≡ lower (e * 2 + 1) tags
      pub on-top : stacked stack₂ depth₂ ≡ fall (lower (e * 2 + 1) tags) (lower (e * 2 + 2) tags - lower (e * 2 + 1) tags) ++ under
      pub kept : length stack₂ ≡ length stack

    pub puts-waiting : at.end ≤ at.update → wait_first (rows_at news (stacked stack at.depth)) doc ≡ true → (stack₁ stack₂ : List ℕ) (left update₂ end₂ depth₂ x : ℕ)
        → x ≡ get_or group (top_of stack at.depth) 0 → stacked stack at.depth ≡ top_of stack at.depth ∷ stacked stack₁ left → left ≤ at.depth
        → Opened (stacked stack₁ left) stack₂ update₂ end₂ depth₂ (id_of (part row_words ops (x * op_words))) → depth₂ ≤ left + 1
        → Walking rows a z ops group stack₂ (set order at.out x) (set places at.out at.row) (record { row = at.row; update = update₂; end = end₂; depth = depth₂; out = (at.out + 1) })
    puts-waiting h w stack₁ stack₂ left update₂ end₂ depth₂ x t p d o k =
        let e : ℕ = id_of (part row_words ops (x * op_words)) in
        let under : All (λ j. j < length group) (stacked stack₁ left) = λ j n. c.stack-in j (rw p (there n)) in
        let named : e ≡ id_of (part row_words ops (get_or group (top_of stack at.depth) 0 * op_words)) = ap (λ (y : ℕ). id_of (part row_words ops (y * op_words))) t in
        rw (o.updates-from, o.updates-to)
        (turn-new c stack₂ (lower (e * 2) tags) (lower (e * 2 + 1) tags) depth₂ x m (l.up_to (e * 2 + 1)) (opened_in rows a z ops group tags l e (stacked stack₁ left) (stacked stack₂ depth₂) o.on-top under) (omega arith) o.kept
        (rw t (get_or-mem group (top_of stack at.depth) 0 (c.stack-in (top_of stack at.depth) (rw p (here refl)))))
        (rest-place rows a z ops group tags l stack at.row at.update at.end at.depth at.out m h stack₂ depth₂ (stacked stack₁ left) c.stack-in p w e named o.on-top
        ∙ ap (λ (y : ℕ). new (part row_words ops (y * op_words)) ∷ rest stack₂ at.row (lower (e * 2) tags) (lower (e * 2 + 1) tags) depth₂ (at.out + 1)) (sym t)))

    pub opens : at.end ≤ at.update → at.row < z → wait_first (rows_at news (stacked stack at.depth)) doc ≡ false → is_insert (part row_words rows (at.row * row_words)) ≡ true → (stack₂ : List ℕ) (update₂ end₂ depth₂ : ℕ)
        → Opened (stacked stack at.depth) stack₂ update₂ end₂ depth₂ (id_of (part row_words rows (at.row * row_words))) → depth₂ ≤ at.depth + 1
        → Walking rows a z ops group stack₂ order places (record { row = (at.row + 1); update = update₂; end = end₂; depth = depth₂; out = at.out })
    opens h k w i stack₂ update₂ end₂ depth₂ o d =
        let e : ℕ = id_of (part row_words rows (at.row * row_words)) in
        rw (o.updates-from, o.updates-to)
        (turn-old c stack₂ (lower (e * 2) tags) (lower (e * 2 + 1) tags) depth₂ k (l.up_to (e * 2 + 1)) (opened_in rows a z ops group tags l e (stacked stack at.depth) (stacked stack₂ depth₂) o.on-top c.stack-in) d o.kept (part row_words rows (at.row * row_words))
        (rest-open rows a z ops group tags l stack at.row at.update at.end at.depth at.out m h stack₂ depth₂ k w i e refl o.on-top))

    pub passes : at.end ≤ at.update → at.row < z → is_insert (part row_words rows (at.row * row_words)) ≡ false → Walking rows a z ops group stack order places (record { row = (at.row + 1); update = at.update; end = at.end; depth = at.depth; out = at.out })
    passes h k i =
        turn-old c stack at.update at.end at.depth k c.end-in c.stack-in (omega arith) refl (part row_words rows (at.row * row_words)) (rest-pass rows a z ops group tags l stack at.row at.update at.end at.depth at.out m h k i)

    -- while a new row is left to put out and none waits, there is a row of the list's
    pub row-left : at.end ≤ at.update → wait_first (rows_at news (stacked stack at.depth)) doc ≡ false → at.row < z
    unfolding rest_from
    row-left h w = by_order at.row z (λ k. k) (λ k. absurd (none k))
      where
        ended : z ≤ at.row → rest stack at.row at.update at.end at.depth at.out ≡ []
        ended k =
            rw (cut-none at.update at.end news h, doc-none rows z at.row k)
            (step-none news (length group - at.out + (z - at.row)) (rows_at news (stacked stack at.depth)) (ap (wait_first (rows_at news (stacked stack at.depth))) (sym (doc-none rows z at.row k)) ∙ w))

        none : z ≤ at.row → ⊥
        none k =
            let t : news_in (list_out news (doc_from rows z a)) ≡ new_rows_of ops (take at.out order) = c.news ∙ ap (λ (g : List Event). new_rows_of ops (take at.out order) ++ news_in g) (ended k) ∙ append-nil (new_rows_of ops (take at.out order)) in
            omega (arith, l.all-out, ap length t, length-new ops (take at.out order), length-take-le at.out order (omega (arith, c.out-in, c.numbers)))

  -- ── the end: all new rows have come out
  pub walk_ends : (l : Listed rows a z ops group tags) {stack order places : List ℕ} {at : Cursor} → Walking rows a z ops group stack order places at → length group ≤ at.out
      → (news_in (list_out (new_rows_of ops group) (doc_from rows z a)) ≡ new_rows_of ops order) × (places_in a (list_out (new_rows_of ops group) (doc_from rows z a)) ≡ places) × All (λ x. Mem x group) order
  walk_ends l {stack} {order} {places} {at} c h =
      let more : List Event = rest stack at.row at.update at.end at.depth at.out in
      let whole : take at.out order ≡ order = take_all at.out order (omega (arith, c.numbers)) in
      let whole₂ : take at.out places ≡ places = take_all at.out places (omega (arith, c.spots)) in
      let k : length (news_in more) ≡ 0 = omega (arith, l.all-out, ap length c.news, length-append (new_rows_of ops (take at.out order)) (news_in more), length-new ops (take at.out order), ap length whole, c.numbers) in (
        c.news ∙ ap₂ (λ (o : List ℕ) (g : List Row). new_rows_of ops o ++ g) whole (drop_of_length-le (news_in more) {i = 0} (omega arith)) ∙ append-nil (new_rows_of ops order),
        c.puts ∙ ap₂ (λ (o g : List ℕ). o ++ g) whole₂ (drop_of_length-le (places_in at.row more) {i = 0} (omega (arith, places-length at.row more))) ∙ append-nil places,
        rw whole at c.chosen,
      )

  -- ── the start: what waits for HEAD
  starts : (l : Listed rows a z ops group tags) (stack : List ℕ) (depth : ℕ) → stacked stack depth ≡ fall (lower 1 tags) (lower 2 tags - lower 1 tags)
      → rest stack a 0 0 depth 0 ≡ list_out (new_rows_of ops group) (doc_from rows z a)
  unfolding rest_from list_out
  starts l stack depth o =
      let g : List Row = new_rows_of ops group in
      let n : length group - 0 + (z - a) ≡ length g + length (doc_from rows z a) = omega (arith, length-new ops group, length-doc rows z a) in
      walk_at g n refl (ap (rows_at g) o ∙ sym (l.waits 0)) refl

  pub walk-starts : (l : Listed rows a z ops group tags) (stack order places : List ℕ) (depth : ℕ) → stacked stack depth ≡ fall (lower 1 tags) (lower 2 tags - lower 1 tags) → depth ≤ 1
      → (1 + (z - a) + length group) * 2 ≤ length stack → length order ≡ length group → length places ≡ length group
      → Walking rows a z ops group stack order places (record { row = a; update = 0; end = 0; depth = depth; out = 0 })
  walk-starts l stack order places depth o d r n p =
      record {
        row_from = omega arith;
        row-to = l.within;
        end-in = omega arith;
        out-in = omega arith;
        stack-in = opened_in rows a z ops group tags l 0 [] (stacked stack depth) (o ∙ sym (append-nil (fall (lower 1 tags) (lower 2 tags - lower 1 tags)))) (λ j m. absurd (not-nil m));
        stack-room = omega arith;
        numbers = n;
        spots = p;
        news = ap news_in (sym (starts l stack depth o)) ∙ ap (λ (g : List Row). g ++ news_in (rest stack a 0 0 depth 0)) (sym (new_none ops));
        puts = ap (places_in a) (sym (starts l stack depth o));
        chosen = λ x m. absurd (not-nil m);
      }
