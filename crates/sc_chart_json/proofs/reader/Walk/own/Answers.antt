use Rattle.std.proofs.Common.{rules}
use Rattle.sc_chart_json.proofs.FaultLemmas.{unknown_member, bad_member, bad_expr, too_many}
use Rattle.sc_chart_json.proofs.reader.Walk.own.Goals as goal

pub returns-then-not-has_known_members-clause-fault : goal.returns-then-not-has_known_members-clause-fault
returns-then-not-has_known_members-clause-fault c f e = unknown_member _ _ _ _ c.in_ok-tag.tag f (search rules) (search rules) (search rules) (search rules)

pub returns-then-not-has_fit_members-clause-fault : goal.returns-then-not-has_fit_members-clause-fault
returns-then-not-has_fit_members-clause-fault c f e = bad_member _ _ _ _ c.in_ok-tag.tag f (search rules) (search rules) (search rules) (search rules) (search rules)

pub returns-in_err-members-clause-fault : goal.returns-in_err-members-clause-fault
returns-in_err-members-clause-fault c f e = bad_expr _ _ _ _ c.in_ok-tag.tag f (search rules) (search rules) (search rules) (search rules) (c.in_err-members.ensures.fault f (search rules))

pub returns-in_err-count-clause-fault : goal.returns-in_err-count-clause-fault
returns-in_err-count-clause-fault c f e = too_many _ _ _ _ c.in_ok-tag.tag f (search rules) (search rules) (search rules) (search rules) (search rules) (search rules)
