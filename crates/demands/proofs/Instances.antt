-- Each theorem, used on a case of 01's table: its hypotheses are met by real documents.
use mathlib.Core.Path.{◌≡◌, refl, subst}
use mathlib.Core.List.Permᴰ
use mathlib.Core.List.{List, [], ◌∷◌, ◌++◌}
use Prim.Native.Nat.{ℕ, ◌<◌, ◌-◌}
use native.Mathlib.Omega.{arith}
use lib.ListN.{take, drop, replicate}
use lib.Dec.{T}
use Rattle.model.specs.Basic.{concat}
use Rattle.model.specs.Sizes.{actors}
use Rattle.model.specs.Id.{head}
use Rattle.model.specs.Kinds.{null_kind, counter_kind}
use Rattle.model.specs.Row.{id_of, row_of}
use Rattle.model.specs.Document.{Document, empty, merged}
use Rattle.model.specs.WellFormed.{well_formed}
use Rattle.model.specs.Picture.{picture}
use Rattle.model.specs.Course.{course, course_accepted, covered_ops}
use Rattle.model.specs.Write.{◌#◌, at, inserts, increments, minus}
use Rattle.model.specs.Cases.{L, the_list, p1, p2, p3, p4, p5, count, raise}
use Rattle.model.specs.Rules.{computes}
use Rattle.laws.proofs.Members.{Same, All, all_cons, not-nil, same_refl}
use Rattle.laws.proofs.Perms.{Perm, perm_same}
use Rattle.demands.proofs.MergedWellFormed.{merged-well_formed}
use Rattle.demands.proofs.Courses.{course-ends, same-set-same-document}
use Rattle.demands.proofs.ReadBack.{same-document-same-set}
use Rattle.demands.proofs.Cuttings.{every-cutting-accepted}
use Rattle.demands.proofs.PictureByCovered.{picture-by-covered}
use Rattle.demands.proofs.SpotIsWhereMergePuts.{spot-is-where-merge-puts}

-- P2's batch keeps P1's document well-formed.
p2-well_formed : T (well_formed (merged (merged empty p1) p2))
unfolding computes
p2-well_formed = merged-well_formed (merged empty p1) p2 tt tt tt

-- P1 to P5, one batch after another: a list, conflicting values, a Delete.
p5-ends : course empty (p1 ∷ p2 ∷ p3 ∷ p4 ∷ p5 ∷ []) ≡ merged empty (concat (p1 ∷ p2 ∷ p3 ∷ p4 ∷ p5 ∷ []))
unfolding computes
p5-ends = course-ends (p1 ∷ p2 ∷ p3 ∷ p4 ∷ p5 ∷ []) tt tt

-- P1 and P2 in two batches, and in one that names P2's operation first.
shuffled : Perm (concat (p1 ∷ p2 ∷ [])) (concat ((p2 ++ p1) ∷ []))
shuffled = Permᴰ.append_comm p1 p2

p2-same-document : course empty (p1 ∷ p2 ∷ []) ≡ course empty ((p2 ++ p1) ∷ [])
unfolding computes
p2-same-document = same-set-same-document (p1 ∷ p2 ∷ []) ((p2 ++ p1) ∷ []) tt tt tt tt (perm_same shuffled)

p2-same-set : Same (concat (p1 ∷ p2 ∷ [])) (concat ((p2 ++ p1) ∷ []))
unfolding computes
p2-same-set = same-document-same-set (p1 ∷ p2 ∷ []) ((p2 ++ p1) ∷ []) tt tt tt tt p2-same-document

p2-cutting : T (course_accepted empty ((p2 ++ p1) ∷ []))
unfolding computes
p2-cutting = every-cutting-accepted (p1 ∷ p2 ∷ []) ((p2 ++ p1) ∷ []) tt tt shuffled tt

-- P6: under a clock that covers the first increment only, a document shows the same with and without the second.
first : List ℕ
first = 2 ∷ replicate (actors - 1) 0

raised : Document
raised = merged empty (count 10 ∷ raise (2 # 0) 5 ∷ [])

lowered : Document
lowered = merged empty (count 10 ∷ raise (2 # 0) 5 ∷ raise (3 # 0) (minus 3) ∷ [])

p6-covered : covered_ops first raised ≡ covered_ops first lowered
unfolding first raised lowered computes
p6-covered = refl

p6-picture : picture first raised ≡ picture first lowered
unfolding first raised lowered computes
p6-picture = picture-by-covered first raised lowered tt tt tt tt tt (subst (Same (covered_ops first raised)) p6-covered (same_refl (covered_ops first raised)))

-- P10: an insert on the counter stands behind its Increment row.
p10 : Document
p10 = merged empty (the_list ∷ inserts (2 # 0) L head counter_kind 10 ∷ increments (3 # 0) L (at (2 # 0)) 1 (2 # 0 ∷ []) ∷ [])

p10-put : (merged p10 (inserts (4 # 0) L (2 # 0) null_kind 0 ∷ [])).rows ≡ take 3 p10.rows ++ row_of (inserts (4 # 0) L (2 # 0) null_kind 0) ∷ drop 3 p10.rows
unfolding p10 computes
p10-put = spot-is-where-merge-puts p10 [] L 1 (2 # 0) 3 (inserts (4 # 0) L (2 # 0) null_kind 0) refl tt tt refl refl below
  where
    below : All (λ r. id_of r < id_of (inserts (4 # 0) L (2 # 0) null_kind 0)) p10.rows
    below = all_cons _ (omega arith) (all_cons _ (omega arith) (all_cons _ (omega arith) (λ r m. absurd (not-nil m))))
