-- `dust_transfer`: the rule by which power goes from one dust to another.
-- Assumes nothing.
use Rattle.std.specs.Prelude.{Bool, cond, ◌&&◌, List, [], ◌∷◌, ℕ, eqb, Option, Some, None, is_some}
use Rattle.blocks.specs.Kind.{is_dust}
use Rattle.columns.specs.Column.{Bytes}
use Rattle.columns.specs.First.{on_found}
use Rattle.places.specs.declared.Pos.{Pos}
use Rattle.places.specs.Places.{horizontals, opposite, beside, above, below, same_pos}
use Rattle.world.specs.Rows.{pos_of, kind_of}
use Rattle.world.specs.Find.{find}
use Rattle.traits.specs.Traits.{traits_at, is_arm, rises_by}
use Rattle.arms.specs.Arms.{arm_of}
use Rattle.wire.specs.declared.transfer.DustTransfer.{DustTransfer}
use Rattle.wire.specs.declared.transfer.DustTransfer.TheVariants.{Horizontal, Rise, FallThroughConductor}

-- ---- from the source, row j, to the sink, row i, along the facing f. The arm of row i along f is `arm i f`: that of the table, which is
-- `arm_of`, or any other.

module _ (arm : ℕ → ℕ → ℕ) (t : Bytes) (j i f : ℕ) where
  -- "Horizontal, sink beside and both have the arm"
  unfoldable pub fits_horizontal : Bool
  fits_horizontal = same_pos (beside (pos_of t j) f) (pos_of t i) && (is_arm (arm j f) && is_arm (arm i (opposite f)))

module _ (arm : ℕ → ℕ → ℕ) (p t : Bytes) (j i f : ℕ) where
  -- "Rise, sink above the cell beside, whose rise equals the source's arm"
  unfoldable pub fits_rise : Bool
  fits_rise = same_pos (above (beside (pos_of t j) f)) (pos_of t i) && rises_by (traits_at p t (beside (pos_of t j) f)) (arm j f)

  -- "FallThroughConductor, sink below the cell beside, the block under the source drives dust and its rise equals the sink's arm back"
  unfoldable pub fits_fall : Bool
  fits_fall =
      same_pos (below (beside (pos_of t j) f)) (pos_of t i)
      && ((traits_at p t (below (pos_of t j))).drives && rises_by (traits_at p t (below (pos_of t j))) (arm i (opposite f)))

  -- the rules by the height step of the sink: 0 level, 1 up, 2 down
  unfoldable pub fits : ℕ → Bool
  fits step = cond (eqb step 0) (fits_horizontal arm t j i f) (cond (eqb step 1) fits_rise fits_fall)

  -- the first rule that fits along f
  unfoldable pub rule_along : Option DustTransfer
  rule_along = cond (fits_horizontal arm t j i f) (Some Horizontal) (cond fits_rise (Some Rise) (cond fits_fall (Some FallThroughConductor) None))

abbrev pub rule_of : ℕ → DustTransfer
rule_of step = cond (eqb step 0) Horizontal (cond (eqb step 1) Rise FallThroughConductor)

-- ---- along any facing

abbrev pub or_rule : Option DustTransfer → Option DustTransfer → Option DustTransfer
or_rule (Some rule) later = Some rule
or_rule None later = later

-- the first facing along which a rule fits; "None where no facing fits"
unfoldable pub first_rule : (ℕ → Option DustTransfer) → List ℕ → Option DustTransfer
first_rule rule [] = None
first_rule rule (f ∷ fs) = or_rule (rule f) (first_rule rule fs)

-- "`dust_transfer` between dusts", of rows with these arms
unfoldable pub transfer_by : (ℕ → ℕ → ℕ) → Bytes → Bytes → ℕ → ℕ → Option DustTransfer
transfer_by arm p t j i = cond (is_dust (kind_of t j) && is_dust (kind_of t i)) (first_rule (rule_along arm p t j i) horizontals) None

-- with the arms of the table
abbrev pub transfer_of : Bytes → Bytes → ℕ → ℕ → Option DustTransfer
transfer_of p t = transfer_by (arm_of p t) p t

-- between what stands at two positions
unfoldable pub dust_transfer : Bytes → Bytes → Pos → Pos → Option DustTransfer
dust_transfer p t source sink = on_found (λ j. on_found (transfer_of p t j) None (find t sink)) None (find t source)

-- ---- any rule at all

-- the rule as a number, 0 where there is none
abbrev pub transfer_number : Option DustTransfer → ℕ
transfer_number None = 0
transfer_number (Some Horizontal) = 1
transfer_number (Some Rise) = 2
transfer_number (Some FallThroughConductor) = 3

abbrev pub is_transfer : Option DustTransfer → Bool
is_transfer rule = is_some rule

-- row j transmits to row i, of rows with these arms
unfoldable pub transmits_by : (ℕ → ℕ → ℕ) → Bytes → Bytes → ℕ → ℕ → Bool
transmits_by arm p t j i = is_transfer (transfer_by arm p t j i)

-- with the arms of the table
abbrev pub transmits : Bytes → Bytes → ℕ → ℕ → Bool
transmits p t = transmits_by (arm_of p t) p t

unfoldable pub dust_transmits : Bytes → Bytes → Pos → Pos → Bool
dust_transmits p t source sink = is_transfer (dust_transfer p t source sink)
