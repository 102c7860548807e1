-- The bytes that a refusal is printed in.
use Rattle.std.specs.Prelude.{ℕ, List, codes}
use Rattle.hub.specs.declared.refusals.HubRefusal.{HubRefusal}
use Rattle.hub.specs.declared.refusals.HubRefusal.TheVariants.{OutOfRange}
use Rattle.hub.specs.declared.refusals.WriteRefusal.{WriteRefusal}
use Rattle.hub.specs.declared.refusals.WriteRefusal.TheVariants.{Short}

-- a refusal to make a hub, in words
abbrev pub hub_text : HubRefusal → List ℕ
hub_text OutOfRange = codes "out of range"

-- a refusal to write a rule set out, in words
abbrev pub write_text : WriteRefusal → List ℕ
write_text Short = codes "buffer too short"
