-- The refusals in words.
use Rattle.std.specs.Prelude.{ℕ, List, codes}
use Rattle.links.specs.declared.make_refusal.MakeRefusal.{MakeRefusal}
use Rattle.links.specs.declared.make_refusal.MakeRefusal.TheVariants.{OutOfRange}
use Rattle.links.specs.declared.switch_refusal.SwitchRefusal.{SwitchRefusal}
use Rattle.links.specs.declared.switch_refusal.SwitchRefusal.TheVariants.{NoSuchLink, AlreadyOn, NotOn, Full}

-- a refusal to make a store, in words
abbrev pub make_text : MakeRefusal → List ℕ
make_text OutOfRange = codes "out of range"

-- a refusal to switch a link, in words
abbrev pub switch_text : SwitchRefusal → List ℕ
switch_text NoSuchLink = codes "no such link"
switch_text AlreadyOn = codes "already on"
switch_text NotOn = codes "not on"
switch_text Full = codes "full"
