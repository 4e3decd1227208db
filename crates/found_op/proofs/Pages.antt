-- Entries written one after another, and that they end as the definition has it: at the output's start, the rest unchanged.
use mathlib.Core.Path.{◌≡◌, refl, sym, ap, ◌∙◌}
use mathlib.Core.List.{List, [], ◌∷◌, ◌++◌, append_assoc, append-nil}
use Prim.Native.Nat.{ℕ, suc, ◌+◌, ◌*◌, ◌≤◌}
use native.Mathlib.Omega.{arith}
use native.Mathlib.Nat.{suc-mul, add-zero}
use lib.ListN.{length, drop, length-append, length-drop}
use lib.Seq.{sets, length-sets, sets-eq, take_at, drop-append-add, drop-drop}
use Rattle.model.specs.Basic.{concat}
use Rattle.model.specs.Sizes.{entry_words}
use Rattle.model.specs.Calls.{over}
use Rattle.laws.proofs.Members.{All, here, there, not-nil, on-mem, all_append}
use Rattle.found_op.specs.Page.{Page, page, writes}

pub writes-append : (p : Page) (xs ys : List (List ℕ)) → writes p (xs ++ ys) ≡ writes (writes p xs) ys
writes-append p [] ys = refl
writes-append p (e ∷ xs) ys = writes-append (page (sets p.out (p.count * entry_words) e) (p.count + 1)) xs ys

pub writes-count : (p : Page) (es : List (List ℕ)) → (writes p es).count ≡ p.count + length es
writes-count p [] = sym (add-zero p.count)
writes-count p (e ∷ es) = omega (arith, writes-count (page (sets p.out (p.count * entry_words) e) (p.count + 1)) es)

pub writes-length : (p : Page) (es : List (List ℕ)) → length (writes p es).out ≡ length p.out
writes-length p [] = refl
writes-length p (e ∷ es) =
    writes-length (page (sets p.out (p.count * entry_words) e) (p.count + 1)) es ∙ length-sets p.out (p.count * entry_words) e

-- every entry has its width
abbrev pub Wide : List (List ℕ) → Type 0
Wide es = All (λ e. length e ≡ entry_words) es

pub length-concat : (es : List (List ℕ)) → Wide es → length (concat es) ≡ length es * entry_words
length-concat [] w = refl
length-concat (e ∷ es) w =
    let a = w e (here refl) in
    let b = length-concat es (λ x m. w x (there m)) in
    length-append e (concat es) ∙ omega (arith, suc-mul (length es) entry_words)

concat-more : (es : List (List ℕ)) (e : List ℕ) → concat (es ++ e ∷ []) ≡ concat es ++ e
concat-more [] e = append-nil e
concat-more (x ∷ es) e = rw (concat-more es e) (sym (append_assoc x (concat es) e))

-- one more entry behind those that stand over the output's start
over-more : (out : List ℕ) (es : List (List ℕ)) (e : List ℕ) → length (concat es) ≡ length es * entry_words → length e ≡ entry_words → length es * entry_words + entry_words ≤ length out
    → sets (over out es) (length es * entry_words) e ≡ over out (es ++ e ∷ [])
over-more out es e c l h =
    let k = length es * entry_words in
    let d = drop (length (concat es)) out in
    let room : k + length e ≤ length (over out es) = omega (arith, length-append (concat es) d, length-drop (length (concat es)) out) in
    let n : length (concat (es ++ e ∷ [])) ≡ k + length e = ap length (concat-more es e) ∙ length-append (concat es) e ∙ ap (λ (j : ℕ). j + length e) c in
    sets-eq e (over out es) k room
    ∙ ap (λ (l : List ℕ). l ++ e ++ drop (k + length e) (over out es)) (take_at (concat es) d k c)
    ∙ ap (λ (l : List ℕ). concat es ++ e ++ l)
    (ap (λ (j : ℕ). drop (j + length e) (over out es)) (sym c)
    ∙ drop-append-add (concat es) d (length e)
    ∙ drop-drop (length e) (length (concat es)) out
    ∙ ap (λ (j : ℕ). drop j out) (ap (λ (j : ℕ). j + length e) c ∙ sym n))
    ∙ ap (λ (l : List ℕ). l ++ drop (length (concat (es ++ e ∷ []))) out) (sym (concat-more es e))

writes-from : (out : List ℕ) (es new : List (List ℕ)) → Wide es → Wide new → (length es + length new) * entry_words ≤ length out
    → writes (page (over out es) (length es)) new ≡ page (over out (es ++ new)) (length es + length new)
writes-from out es [] w v h = rw (append-nil es, add-zero (length es))
writes-from out es (e ∷ new) w v h =
    let c = length-concat es w in
    let a = v e (here refl) in
    let n : length (es ++ e ∷ []) ≡ length es + 1 = length-append es (e ∷ []) in
    let s : length (es ++ e ∷ []) + length new ≡ length es + suc (length new) = omega arith in
    ap (λ (x : List ℕ). writes (page x (length es + 1)) new) (over-more out es e c a (omega arith))
    ∙ ap (λ (k : ℕ). writes (page (over out (es ++ e ∷ [])) k) new) (sym n)
    ∙ writes-from out (es ++ e ∷ []) new (all_append (λ x. length x ≡ entry_words) es w (λ x m. v x (on-mem m (λ q. here q) (λ i. absurd (not-nil i))))) (λ x m. v x (there m)) (omega arith)
    ∙ ap (λ (l : List (List ℕ)). page (over out l) (length (es ++ e ∷ []) + length new)) (append_assoc es (e ∷ []) new)
    ∙ ap (λ (k : ℕ). page (over out (es ++ e ∷ new)) k) s

pub writes-over : (out : List ℕ) (new : List (List ℕ)) → Wide new → length new * entry_words ≤ length out → writes (page out 0) new ≡ page (over out new) (length new)
writes-over out new v h =
    writes-from out [] new (λ x m. absurd (not-nil m)) v (omega arith) ∙ ap (λ (k : ℕ). page (over out new) k) (omega arith)
