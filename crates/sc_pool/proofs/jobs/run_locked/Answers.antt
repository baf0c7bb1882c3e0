use denote.Exit.{no}
use denote.Param.{param}
use denote.Param.Send.{arg_sync, param_sync, shr_sync}
use Rattle.std.proofs.Crossing.{sync as global_sync}
use Rattle.sc_pool.proofs.Crossing.{five_sync, lock_sync}
use Rattle.sc_pool.proofs.PoolLemmas.{ran_of}
use Rattle.sc_pool.proofs.jobs.run_locked.Goals as goal

pub for_each_mut-requires-sync-F : goal.for_each_mut-requires-sync-F
for_each_mut-requires-sync-F g c κs within =
    let b = c.type_bounds in
    let lock = lock_sync _ (param 0 g.row.E) (param 1 g.row.D) (param 2 g.row.J) (param 5 g.row.E-Plan) g.E.Engine g.D.Disk g.J.Plan
    b.sync-E b.send-D b.send-E-Plan b.sync-E-Plan in
    param_sync 2 _ (arg_sync _ no _ (five_sync _ _ _ _ _ _ (shr_sync _ _ _ b.sync-R) (shr_sync _ _ _ global_sync)
    (shr_sync _ _ _ b.sync-E) (shr_sync _ _ _ b.sync-G) (shr_sync _ _ _ lock)))

pub returns : goal.returns
returns g c =
    ran_of _ _ _ _ _ c.into_parts.ensures.keeps c.into_parts.ensures.worst c.into_parts.ensures.entries c.into_parts.ensures.ready
    c.finish_clients.ensures c.finish_steps.ensures.clients c.finish_steps.ensures.spent
