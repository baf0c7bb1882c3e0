use Rattle.std.proofs.Common.{rules, nat_lt, arith}
use Rattle.std.proofs.lemmas.List.Sorted.{IsPartitionPoint-from_clause}
use Rattle.sc_rooms.proofs.PlaceLemmas.{parted, rank-is}
use Rattle.sc_rooms.proofs.places.rank.Goals as goal

pub returns-clause-value : goal.returns-clause-value
returns-clause-value c =
    let items = c.args.places.now.items in
    rank-is c.args.from items c.partition_point.result
    (omega (arith, c.partition_point.ensures.bound, c.args.places.now.ok))
    (IsPartitionPoint-from_clause (λ m. nat_lt m c.args.from) items c.partition_point.result
    c.partition_point.ensures.partitioned (parted items c.args.from c.requires) (λ a r f' k. search rules))
