-- The limits of each set let every answer be packed. Assumes nothing.
use native.Mathlib.Omega.{arith}
use Rattle.tables.specs.Limits.{handheld, vehicle}
use Rattle.tables.proofs.RoomyLaws.{handheld_roomy, vehicle_roomy}
use Rattle.export.proofs.RequestLaws.{handheld_exportable, vehicle_exportable}
use Rattle.packing.specs.Packing.{Packable}

pub handheld_packable : Packable handheld
handheld_packable = record { roomy = handheld_roomy; size = omega arith; exportable = handheld_exportable }

pub vehicle_packable : Packable vehicle
vehicle_packable = record { roomy = vehicle_roomy; size = omega arith; exportable = vehicle_exportable }
