-- `progress_running` meets its contract.
use Rattle.starts.proofs.ProgressLaws.{countable}
use Rattle.starts.proofs.progress_running.Goals as goal

pub orders_before-before-requires : goal.orders_before-before-requires
orders_before-before-requires c = let small = countable c.args.run.state c.args.run.fitting c.args.run.going in (small.phase, small.area, small.image)
