-- When a switching is refused, by what is known of the link.
use Rattle.std.proofs.Common.{◌≡◌, ◌<◌, ◌≤◌, true, false, length, Some, None}
use Rattle.std.proofs.lemmas.Bool.{le-leb, lt-leb}
use Rattle.links.specs.declared.link.Link.{Link}
use Rattle.links.specs.declared.switch_refusal.SwitchRefusal.TheVariants.{NoSuchLink, AlreadyOn, NotOn, Full}
use Rattle.links.specs.Sets.{LinkSet, inside, member}
use Rattle.links.specs.Answers.{on_refusal, off_refusal}

module _ (g : LinkSet) (l : Link) where
  pub on_outside : inside g.things l ≡ false → on_refusal g l ≡ Some NoSuchLink
  on_outside h = rw h

  pub off_outside : inside g.things l ≡ false → off_refusal g l ≡ Some NoSuchLink
  off_outside h = rw h

  module _ (h : inside g.things l ≡ true) where
    pub on_there : member l g.links ≡ true → on_refusal g l ≡ Some AlreadyOn
    on_there m = rw (h, m)

    pub on_full : member l g.links ≡ false → g.limit ≤ length g.links → on_refusal g l ≡ Some Full
    on_full m f = rw (h, m, le-leb g.limit (length g.links) f)

    pub on_taken : member l g.links ≡ false → length g.links < g.limit → on_refusal g l ≡ None
    on_taken m f = rw (h, m, lt-leb g.limit (length g.links) f)

    pub off_missing : member l g.links ≡ false → off_refusal g l ≡ Some NotOn
    off_missing m = rw (h, m)

    pub off_taken : member l g.links ≡ true → off_refusal g l ≡ None
    off_taken m = rw (h, m)
