-- The numbers that are lent, as the definitions take them.
-- Assumes nothing.
use Rattle.levels.specs.declared.Numbers.{Numbers as LentNumbers}
use Rattle.levels.specs.Numbers.{Numbers, numbers}

abbrev pub lent : LentNumbers → Numbers
lent s = numbers s.signal.now s.power.weak.now s.power.strong.now
