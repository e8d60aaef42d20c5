-- Each set's tables have room in its store. Assumes nothing.
use Rattle.lists.proofs.Kit.{arith}
use Rattle.tables.specs.Forms.{Roomy}
use Rattle.tables.specs.Limits.{handheld, vehicle}

-- HANDHELD ROOMY: those of a hand-held, in 24,576 bytes
pub handheld_roomy : Roomy handheld
handheld_roomy = record { fits = omega arith; few_channels = omega arith; few_lines = omega arith; area = omega arith }

-- VEHICLE ROOMY: those of a vehicle set, in 49,152
pub vehicle_roomy : Roomy vehicle
vehicle_roomy = record { fits = omega arith; few_channels = omega arith; few_lines = omega arith; area = tt }
