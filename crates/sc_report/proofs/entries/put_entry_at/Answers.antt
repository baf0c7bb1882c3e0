use Rattle.std.proofs.Common.{◌≡◌, ◌+◌, Some, ap, subst, sym, ◌∙◌}
use Rattle.std.specs.Option.{option_map}
use Rattle.sc_core.specs.Showing.{shown_entry}
use Rattle.sc_report.specs.Entries.{entry_text}
use Rattle.sc_report.specs.Outlets.{Writes}
use Rattle.sc_report.proofs.EntryLemmas.{same_entry}
use Rattle.sc_report.proofs.entries.put_entry_at.Goals as goal

pub returns : goal.returns
returns g c e there =
    let found : Some (shown_entry c.in-Some.shown) ≡ Some e =
    sym (ap (option_map shown_entry) c.in-Some.is) ∙ c.get.ensures ∙ there in
    subst (λ d. Writes g.K.Sink.taken g.K.Sink.faults c.args.out.now c.put_shown.new.out (entry_text (c.args.place + 1) d))
    (same_entry (shown_entry c.in-Some.shown) e found) c.put_shown.ensures
