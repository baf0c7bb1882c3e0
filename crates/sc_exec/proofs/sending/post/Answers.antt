use Rattle.sc_exec.proofs.sending.post.Goals as goal

pub returns-in-Inside-clause-ok : goal.returns-in-Inside-clause-ok
returns-in-Inside-clause-ok c = rw c.in-Inside.is (c.post_inside.ensures.ok c.args.posted.delay)
