-- `report::profile_bytes` meets its contract. Assumes nothing.
use borrow.Author.Tests.{eq-eqb, ne_eqb}
use Rattle.report.proofs.profile_bytes.Goals as goal

pub returns-then-input-eq-PROFILE_BYTES_WITH_BULB : goal.returns-then-input-eq-PROFILE_BYTES_WITH_BULB
returns-then-input-eq-PROFILE_BYTES_WITH_BULB c = rw (eq-eqb _ 14 c.if-input-eq-PROFILE_BYTES_WITH_BULB.true)

pub returns : goal.returns
returns c = rw (ne_eqb _ 14 c.if-input-eq-PROFILE_BYTES_WITH_BULB.false)
