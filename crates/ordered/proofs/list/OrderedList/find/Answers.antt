use Rattle.std.proofs.Common.{length, sym, ◌∙◌}
use Rattle.ordered.specs.Items.{items}
use Rattle.ordered.proofs.Laws.{found_record, lookup_none}
use Rattle.ordered.proofs.Searching.{sought_ok, sought_err}
use Rattle.ordered.proofs.list.OrderedList.find.Goals as goal

pub returns-in_err-ok : goal.returns-in_err-ok
returns-in_err-ok g c =
    let b = g.R.Keyed.before in
    let xs = items c.args.self.now in
    let missed = sought_err b c.args.x.now xs c.binary_search.result c.ok.result c.ok.ensures.value c.in_err-ok.was c.binary_search.ensures.sought in
    c.from_residual.ensures ∙ sym (lookup_none b g.met.R.Keyed.order c.args.x.now xs missed)

pub returns : goal.returns
returns g c =
    let b = g.R.Keyed.before in
    let xs = items c.args.self.now in
    let found = sought_ok b c.args.x.now xs (length xs) c.binary_search.result c.ok.result _ c.ok.ensures.value c.in_ok-ok.was c.binary_search.ensures.bound c.binary_search.ensures.sought in
    found_record b g.met.R.Keyed.order c.args.x.now xs c.in_ok-ok.field-0 c.get.result c.args.self.now.rises found.1 found.2 found.0 c.get.ensures
