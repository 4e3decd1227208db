-- An operation written out from its row and its predecessors, and a Delete's row from a row of the same key.
use Rattle.std.specs.Prelude.{if◌then◌else◌}
use mathlib.Core.Path.{◌≡◌, refl, sym, ap, ap₂, subst, ◌∙◌}
use mathlib.Core.Logic.{◌⊎◌, inl, inr, ⊎_elim}
use mathlib.Core.Bool.{true, false, not, cond, ◌&&◌, ◌||◌, true≢false}
use mathlib.Core.List.{List, [], ◌∷◌, ◌++◌, append_assoc}
use Prim.Native.Nat.{ℕ, zero, suc, ◌+◌, ◌-◌, ◌<◌}
use native.Mathlib.Omega.{arith}
use lib.ListN.{length, get_or, take, drop, replicate, length-append, length-take, length-drop, take-append-drop, get_or-append}
use lib.Seq.{drop-cons, take_at, drop_at, get_or_at, get_or-take, get_or-drop}
use lib.Dec.{T, T_not, not_T, eqb, eqb→eq}
use Rattle.model.specs.Basic.{zeros}
use Rattle.model.specs.Sizes.{max_preds, row_words, op_words}
use Rattle.model.specs.Kinds.{map_key, list_key, set, delete, increment, null_kind, signed_kind}
use Rattle.model.specs.Row.{Row, Op, id_of, object_of, key_kind_of, on_list, named_of, key_length_of, key_words_of, insert_of, is_insert, action_of, value_kind_of, value_of, is_delete, is_increment, element_of, row_of, preds_of, pred_count_of, pred_room_of}
use Rattle.model.specs.Key.{key_bytes_of, same_key}
use Rattle.model.specs.Malformed.{row_fits, preds_fit, value_fits, set_value_fits}
use Rattle.model.specs.Course.{with_preds, delete_at}
use Rattle.laws.proofs.Tests.{T_and, T-or, by-test, is_true, is_false, of-true, of-false, neqb→ne}
use Rattle.laws.proofs.RowFits.{fits, list-key, map-key, map-key-fits}
use Rattle.laws.proofs.SameKey.{SameKey, same-key-is}
use Rattle.laws.proofs.Shaped.{Shape}
use Rattle.laws.proofs.Keys.{keyed, key-same}
use Rattle.laws.proofs.Entries.{preds-facts, preds-length}

zeros-replicate : (l : List ℕ) → T (zeros l) → l ≡ replicate (length l) 0
zeros-replicate [] t = refl
zeros-replicate (x ∷ l) t =
    let u = (T_and (eqb 0 x) (zeros l)).0 t in
    ap₂ ◌∷◌ (sym (eqb→eq 0 x u.0)) (zeros-replicate l u.1)

-- ── an operation is its row, the count of its predecessors, those, and zeros
pub op-written : (o : Op) → length o ≡ op_words → T (preds_fit o) → o ≡ with_preds (row_of o) (preds_of o)
unfolding with_preds
op-written o w t =
    let p = preds-facts o t in
    let room = pred_room_of o in
    let c = pred_count_of o in
    let past = drop c room in
    let size : length past ≡ max_preds - length (preds_of o) = omega (arith, length-drop c room, length-drop (suc row_words) o, preds-length o w t) in
    sym (take-append-drop row_words o)
    ∙ ap (λ l. row_of o ++ l) (drop-cons o row_words 0 (omega arith) ∙ ap (λ l. c ∷ l) (sym (take-append-drop c room)))
    ∙ ap₂ (λ n z. row_of o ++ (n ∷ (preds_of o ++ z))) (sym (preds-length o w t)) (zeros-replicate past p.past ∙ ap (λ n. replicate n 0) size)
    ∙ sym (append_assoc (row_of o) (length (preds_of o) ∷ preds_of o) (replicate (max_preds - length (preds_of o)) 0))

-- ── and can be read again
module _ (r : Row) (ps : List ℕ) (full : length r ≡ row_words) where
  tail : List ℕ
  tail = length ps ∷ (ps ++ replicate (max_preds - length ps) 0)

  as-tail : with_preds r ps ≡ r ++ tail
  unfolding with_preds tail
  as-tail = append_assoc r (length ps ∷ ps) (replicate (max_preds - length ps) 0)

  pub row-of-written : row_of (with_preds r ps) ≡ r
  row-of-written = ap (take row_words) as-tail ∙ take_at r tail row_words full

  pub word-of-written : (k : ℕ) → k < row_words → get_or (with_preds r ps) k 0 ≡ get_or r k 0
  word-of-written k h = ap (λ l. get_or l k 0) as-tail ∙ get_or-append r tail 0 k (omega arith)

  count-of-written : pred_count_of (with_preds r ps) ≡ length ps
  unfolding tail
  count-of-written = ap (λ l. get_or l row_words 0) as-tail ∙ get_or_at r (length ps) (ps ++ replicate (max_preds - length ps) 0) 0 row_words full

  pub preds-of-written : preds_of (with_preds r ps) ≡ ps
  unfolding tail
  preds-of-written =
      ap₂ take count-of-written (ap (drop (suc row_words)) (as-tail ∙ snoc) ∙ drop_at (r ++ length ps ∷ []) (ps ++ replicate (max_preds - length ps) 0) (suc row_words) (length-append r (length ps ∷ []) ∙ omega (arith, full)))
      ∙ take_at ps (replicate (max_preds - length ps) 0) (length ps) refl
    where
      snoc : r ++ tail ≡ (r ++ length ps ∷ []) ++ (ps ++ replicate (max_preds - length ps) 0)
      snoc = sym (append_assoc r (length ps ∷ []) (ps ++ replicate (max_preds - length ps) 0))

-- ── a list by its words
abbrev pub tab : (ℕ → ℕ) → ℕ → ℕ → List ℕ
tab f k zero = []
tab f k (suc n) = f k ∷ tab f (suc k) n

tab-suc : (f : ℕ → ℕ) (k n : ℕ) → tab (λ i. f (suc i)) k n ≡ tab f (suc k) n
tab-suc f k zero = refl
tab-suc f k (suc n) = ap (λ l. f (suc k) ∷ l) (tab-suc f (suc k) n)

pub by-words : (l : List ℕ) → l ≡ tab (λ i. get_or l i 0) 0 (length l)
by-words [] = refl
by-words (x ∷ l) = ap (λ k. x ∷ k) (by-words l ∙ tab-suc (λ i. get_or (x ∷ l) i 0) 0 (length l))

pub key-by-words : (r : Row) → length r ≡ row_words → key_words_of r ≡ get_or r 5 0 ∷ get_or r 6 0 ∷ get_or r 7 0 ∷ []
key-by-words r full =
    let ws = take 3 (drop 5 r) in
    let three : length ws ≡ 3 = simp (length-take, length-drop) (omega arith) in
    let at : (i : ℕ) → i < 3 → get_or ws i 0 ≡ get_or r (5 + i) 0 = λ i h. get_or-take 3 (drop 5 r) i 0 h ∙ get_or-drop 5 r i 0 in
    by-words ws ∙ ap (tab (λ i. get_or ws i 0) 0) three ∙ rw (at 0 (omega arith), at 1 (omega arith), at 2 (omega arith))

-- a row's kind of key is one of two
two-kinds : (r : Row) → T (row_fits r) → (key_kind_of r ≡ map_key) ⊎ (key_kind_of r ≡ list_key)
two-kinds r t =
    ⊎_elim (λ u. inl (eqb→eq (key_kind_of r) map_key u))
    (λ u. ⊎_elim (λ v. inr (eqb→eq (key_kind_of r) list_key v)) (λ v. absurd v) ((T-or (eqb (key_kind_of r) list_key) false).0 u))
    ((T-or (eqb (key_kind_of r) map_key) (eqb (key_kind_of r) list_key || false)).0 (fits r t).kind)

-- ── what a Delete's row shows
module _ (i : ℕ) (r : Row) (full : length r ≡ row_words) where
  as-words : delete_at i r ≡ i ∷ object_of r ∷ key_kind_of r ∷ (if on_list r then element_of r else 0) ∷ key_length_of r ∷ get_or r 5 0 ∷ get_or r 6 0 ∷ get_or r 7 0 ∷ 0 ∷ delete ∷ null_kind ∷ 0 ∷ []
  unfolding delete_at
  as-words = rw (key-by-words r full)

  pub delete-full : length (delete_at i r) ≡ row_words
  delete-full = ap length as-words

  pub delete-id : id_of (delete_at i r) ≡ i
  delete-id = ap id_of as-words

  pub delete-deletes : T (is_delete (delete_at i r))
  delete-deletes = subst (λ a. T (eqb a delete)) (sym (ap action_of as-words)) tt

-- ── a Delete's row is that of its key
module _ (o r : Row) (deletes : T (is_delete o)) (fo : T (row_fits o)) (fr : T (row_fits r)) (so : Shape row_words o) (sr : Shape row_words r) (one : T (same_key r o)) where
  keys : SameKey r o
  keys = (same-key-is r o).0 one

  action : action_of o ≡ delete
  action = eqb→eq (action_of o) delete deletes

  no-insert : T (not (is_insert o))
  no-insert =
      let other = is_delete o || is_increment o in
      not_T (is_insert o) (λ t. T_not (is_insert o && other) (fits o fo).plain ((T_and (is_insert o) other).1 (t, (T-or (is_delete o) (is_increment o)).1 (inl deletes))))

  insert-zero : insert_of o ≡ 0
  insert-zero = let ne = neqb→ne (insert_of o) 1 no-insert in let le = (fits o fo).insert in omega arith

  lists : on_list r ≡ on_list o
  lists = keys.1

  kind : key_kind_of r ≡ key_kind_of o
  kind =
      ⊎_elim
      (λ a. ⊎_elim (λ b. a ∙ sym b) (λ b. absurd (true≢false (sym (ap (λ k. eqb k list_key) b) ∙ sym lists ∙ ap (λ k. eqb k list_key) a))) (two-kinds o fo))
      (λ a. ⊎_elim (λ b. absurd (true≢false (sym (ap (λ k. eqb k list_key) a) ∙ lists ∙ ap (λ k. eqb k list_key) b))) (λ b. a ∙ sym b) (two-kinds o fo))
      (two-kinds r fr)

  rests : cond (on_list r) (element_of r ∷ []) (key_bytes_of r) ≡ cond (on_list o) (element_of o ∷ []) (key_bytes_of o)
  rests = keys.2

  named : element_of o ≡ named_of o
  unfolding element_of
  named = rw (is_false (is_insert o) no-insert)

  element : (if on_list r then element_of r else 0) ≡ named_of o
  element =
      by-test (on_list r)
      (λ t.
      let u : on_list o ≡ true = sym lists ∙ is_true (on_list r) t in
      rw (is_true (on_list r) t) (ap (λ l. get_or l 0 0) (rw (is_true (on_list r) t, u) at rests) ∙ named))
      (λ t. rw (is_false (on_list r) t) (sym (map-key o fo (of-false (sym lists ∙ is_false (on_list r) t))).no-element))

  plain-words : (x : Row) → T (row_fits x) → Shape row_words x → T (on_list x) → (key_length_of x ≡ 0) × (key_words_of x ≡ 0 ∷ 0 ∷ 0 ∷ [])
  plain-words x f s t =
      let u = (T_and (eqb 0 (key_length_of x)) (zeros (key_words_of x))).0 (list-key x f t).bare in
      let three : length (key_words_of x) ≡ 3 = let w = s.full in simp (length-take, length-drop) (omega arith) in
      (sym (eqb→eq 0 (key_length_of x) u.0), zeros-replicate (key_words_of x) u.1 ∙ ap (λ n. replicate n 0) three)

  key : (key_length_of r ≡ key_length_of o) × (key_words_of r ≡ key_words_of o)
  key =
      by-test (on_list r)
      (λ t.
      let a = plain-words r fr sr t in
      let b = plain-words o fo so (of-true (sym lists ∙ is_true (on_list r) t)) in
      (a.0 ∙ sym b.0, a.1 ∙ sym b.1))
      (λ t.
      let u = of-false (sym lists ∙ is_false (on_list r) t) in
      let w = sr.full in
      let v = so.full in
      key-same r o (keyed r (omega arith) sr.range (map-key-fits r fr t)) (keyed o (omega arith) so.range (map-key-fits o fo u))
      (rw (is_false (on_list r) t, is_false (on_list o) u) at rests))

  value : (value_kind_of o ≡ null_kind) × (value_of o ≡ 0)
  unfolding value_fits
  value =
      let none = eqb (value_kind_of o) null_kind && eqb (value_of o) 0 in
      let t = subst (λ b. T (cond b (set_value_fits o) (cond (is_increment o) (eqb (value_kind_of o) signed_kind) none))) (ap (λ a. eqb a set) action) (fits o fo).value in
      let u = subst (λ b. T (cond b (eqb (value_kind_of o) signed_kind) none)) (ap (λ a. eqb a increment) action) t in
      let v = (T_and (eqb (value_kind_of o) null_kind) (eqb (value_of o) 0)).0 u in
      (eqb→eq (value_kind_of o) null_kind v.0, eqb→eq (value_of o) 0 v.1)

  pub delete-written : o ≡ delete_at (id_of o) r
  unfolding delete_at
  delete-written =
      by-words o ∙ ap (tab (λ i. get_or o i 0) 0) so.full
      ∙ rw (keys.0, element, kind, key.0, key.1, key-by-words o so.full, insert-zero, action, value.0, value.1)
