-- Answers of `month::count`.
use Rattle.totals.proofs.Reading.{open_start}
use Rattle.month.proofs.count.Goals as goal

pub loop-tables_before-init : goal.loop-tables_before-init
loop-tables_before-init g c = open_start c.start-month.ensures c.args.profile.now
