use Rattle.sc_hints.proofs.element.+put_elements.Given as goal

abbrev pub decreases-put_elements : goal.decreases-put_elements
decreases-put_elements l = l.levels
