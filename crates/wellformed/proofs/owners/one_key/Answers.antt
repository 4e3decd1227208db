use Rattle.wellformed.proofs.Found.{key-no-first, key-no-second, key-both}
use Rattle.wellformed.proofs.owners.one_key.Goals as goal

pub returns-in_default : goal.returns-in_default
returns-in_default c = key-no-first _ _ _ c.find.ensures.same c.in_default.is

pub returns-in_default-find : goal.returns-in_default-find
returns-in_default-find c = key-no-second _ _ _ c.find.ensures.same c.find-2.ensures.same c.in-Some.is c.in_default-find.is

pub returns : goal.returns
returns c =
    key-both _ _ _ c.find.ensures.same c.find-2.ensures.same c.in-Some.is c.find.ensures.plain c.find-2.ensures.plain c.in-Some-find.is c.same_key.ensures
