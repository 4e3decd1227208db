-- The rules of successor entries in parts, as the code decides them.
use Rattle.std.specs.Prelude.{if◌then◌else◌}
use mathlib.Core.Path.{◌≡◌, refl, ◌∙◌}
use mathlib.Core.Bool.{Bool, true, false, not, ◌&&◌, ◌||◌}
use mathlib.Core.List.{List, []}
use lib.Dec.{eqb}
use Rattle.model.specs.Basic.{◌implies◌, any, all}
use Rattle.model.specs.Id.{is_id}
use Rattle.model.specs.Row.{Row, Succ, id_of, is_increment, owner_of, succ_of, carries_of, carried_of, rows_with}
use Rattle.model.specs.Key.{same_key}
use Rattle.model.specs.WellFormed.{one_key, carries_right}
use Rattle.checks.specs.Find.{has_id}
use Rattle.wellformed.specs.Document.{document_of}
use Rattle.wellformed.specs.Rules.{no_insert, increment_stands, one_key_of, is_succ, succ_row_fits, delete_fits, raises, carries_value}
use Rattle.wellformed.proofs.Lists.{member-by, all_both}

pub succ_row_parts : (rs : List Row) (s : Succ) → succ_row_fits rs s ≡ (all no_insert (rows_with rs (succ_of s)) && one_key_of rs (succ_of s) (owner_of s))
unfolding succ_row_fits one_key_of
succ_row_parts rs s = all_both no_insert (λ r. all (same_key r) (rows_with rs (owner_of s))) (rows_with rs (succ_of s))

pub key_parts : (rs : List Row) (s t : Succ) → one_key (document_of rs []) s t ≡ (not (eqb (succ_of s) (succ_of t)) || one_key_of rs (owner_of s) (owner_of t))
unfolding one_key one_key_of
key_parts rs s t = refl

not-not : (a b : Bool) → (not a implies b) ≡ (a || b)
not-not true b = refl
not-not false b = refl

pub delete_parts : (rs : List Row) (ss : List Succ) (s : Succ)
    → delete_fits (document_of rs ss) s ≡ (any (has_id (succ_of s)) rs || is_id (succ_of s) && all (one_key (document_of rs []) s) ss)
unfolding delete_fits one_key
delete_parts rs ss s =
    not-not (any (eqb (succ_of s)) (mathlib.Core.List.map id_of rs)) (is_id (succ_of s) && all (one_key (document_of rs []) s) ss)
    ∙ rw (member-by id_of (succ_of s) rs)

pub increment_parts : (ss : List Succ) (r : Row) → increment_stands ss r ≡ (not (is_increment r) || any (is_succ (id_of r)) ss)
unfolding increment_stands is_succ
increment_parts ss r = rw (member-by succ_of (id_of r) ss)

pub carries_parts : (rs : List Row) (s : Succ)
    → carries_right (document_of rs []) s
    ≡ (if raises rs s
    then eqb (carries_of s) 1 && carries_value rs s
    else eqb (carries_of s) 0 && eqb (carried_of s) 0)
unfolding carries_right raises carries_value
carries_parts rs s = refl
