use Rattle.sc_report_facts.proofs.Reports.{report_tells}
use Rattle.sc_report_facts.proofs.different_histories_have_different_reports.Goals as goal

pub returns-clause-history : goal.returns-clause-history
returns-clause-history c g opened other first second ended stopped p q same =
    (report_tells g opened other first second ended stopped p q same).history

pub returns-clause-end : goal.returns-clause-end
returns-clause-end c g opened other first second ended stopped p q same =
    (report_tells g opened other first second ended stopped p q same).end
