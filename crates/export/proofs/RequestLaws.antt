-- A request's head, written before the settings that follow it. Assumes nothing.
use Rattle.lists.proofs.Kit.{ℕ, ◌+◌, ◌-◌, ◌/◌, ◌%◌, ◌≤◌, ◌<◌, ◌≡◌, refl, sym, ap, ◌∙◌, subst, List, [], ◌∷◌, ◌++◌, arith, length}
use Rattle.slots.specs.Slots.{u16}
use Rattle.writing.specs.Canonical.{plain, canonical_all}
use Rattle.writing.specs.Carrier.{start_bytes, carrier}
use Rattle.writing.specs.Fields.{val, res}
use Rattle.writing.specs.Settings.{Setting, unicode16}
use Rattle.writing.specs.Writing.{request_head}
use Rattle.export_write.specs.Writers.{Wrote}
use Rattle.export_write.proofs.PlainLaws.{plain_byte, plain_two}
use Rattle.export_write.proofs.WroteLaws.{wrote_length, wrote_before, wrote_as}
use Rattle.tables.specs.Limits.{handheld, vehicle}
use Rattle.export.specs.Exportable.{Exportable}
use Rattle.export.specs.Exported.{request_bytes}
use Rattle.export.specs.PartWriters.{Headed}

-- the first data bytes, and the carrier's
head_is : (n : ℕ) → n < 256 → plain (request_head n) ≡ 8 ∷ n ∷ []
head_is n c =
    plain_byte 8 (val 5 1 ∷ val 3 0 ∷ []) (val 8 n ∷ []) refl refl (omega arith) (1, refl) (c, tt)
    ∙ ap (λ (x : List ℕ). 8 ∷ x) (plain_byte n (val 8 n ∷ []) [] refl (omega arith) c (0, refl) tt)

carrier_is : (n : ℕ) → n < 65536 → plain (carrier n 7) ≡ u16 n ++ (8 ∷ 7 ∷ [])
carrier_is n l = plain_two n (val 16 n ∷ []) (val 8 0x08 ∷ res 4 ∷ val 4 7 ∷ []) refl (omega arith) l (2, refl) (omega arith, (tt, (omega arith, tt)))

-- a request's head before any bytes
headed_is : (n : ℕ) (all : List ℕ) → n < 256 → 4 + length all < 65536
    → start_bytes ++ plain (carrier (2 + length (plain (request_head n) ++ all)) 7) ++ (plain (request_head n) ++ all) ≡ (2 ∷ 2 ∷ u16 (4 + length all) ++ (8 ∷ 7 ∷ 8 ∷ n ∷ [])) ++ all
headed_is n all c l =
    let k : 2 + length (8 ∷ n ∷ all) ≡ 4 + length all = omega arith in
    ap (λ (x : List ℕ). start_bytes ++ plain (carrier (2 + length (x ++ all)) 7) ++ (x ++ all)) (head_is n c)
    ∙ ap (λ (i : ℕ). start_bytes ++ plain (carrier i 7) ++ (8 ∷ n ∷ all)) k ∙ ap (λ (x : List ℕ). start_bytes ++ x ++ (8 ∷ n ∷ all)) (carrier_is (4 + length all) l)

-- the bytes of a request: its head, and the settings
pub request_is : (ss : List Setting) → length ss < 256 → 4 + length (canonical_all unicode16 ss) < 65536
    → request_bytes ss ≡ (2 ∷ 2 ∷ u16 (4 + length (canonical_all unicode16 ss)) ++ (8 ∷ 7 ∷ 8 ∷ length ss ∷ [])) ++ canonical_all unicode16 ss
request_is ss c l = headed_is (length ss) (canonical_all unicode16 ss) c l

-- the settings were written, and then it
pub request_headed : (count end r : ℕ) (before after : List ℕ) → count < 256 → end ≤ length before
    → Wrote (2 ∷ 2 ∷ ((end - 4) / 256 % 256) ∷ ((end - 4) % 256) ∷ 8 ∷ 7 ∷ 8 ∷ count ∷ []) 0 before after r
    → (end ≤ length after) × ((8 ≤ end) × (end ≤ length before) × (end < 65540) → Headed count end before after end)
request_headed count end r before after c within w = (omega (arith, wrote_length _ 0 r before after w), λ h. record { same = refl; request = all h })
  where
    all : (8 ≤ end) × (end ≤ length before) × (end < 65540) → (ss : List Setting) (was : List ℕ) → length ss ≡ count
        → Wrote (canonical_all unicode16 ss) 8 was before end → Wrote (request_bytes ss) 0 was after end
    all (low, _, high) ss was n v =
        let k : end - 4 ≡ 4 + length (canonical_all unicode16 ss) = omega (arith, v.next) in
        let d : (end - 4) / 256 % 256 ≡ (4 + length (canonical_all unicode16 ss)) / 256 = omega (arith, v.next) in
        let e : (end - 4) % 256 ≡ (4 + length (canonical_all unicode16 ss)) % 256 = ap (λ (i : ℕ). i % 256) k in
        let head : List ℕ = 2 ∷ 2 ∷ ((end - 4) / 256 % 256) ∷ ((end - 4) % 256) ∷ 8 ∷ 7 ∷ 8 ∷ count ∷ [] in
        let x : head ++ canonical_all unicode16 ss ≡ request_bytes ss
        = (λ i. 2 ∷ 2 ∷ d i ∷ e i ∷ 8 ∷ 7 ∷ 8 ∷ sym n i ∷ canonical_all unicode16 ss) ∙ sym (request_is ss (omega arith) (omega arith)) in
        wrote_as (head ++ canonical_all unicode16 ss) (request_bytes ss) 0 end was after x
        (wrote_before head (canonical_all unicode16 ss) 0 8 end was before after v (subst (λ (m : ℕ). Wrote head 0 before after m) w.next w))

-- HANDHELD: every part of a handheld's tables is one request
pub handheld_exportable : Exportable handheld
handheld_exportable = record { counted = omega arith; channels = omega arith; status = omega arith; lines = omega arith }

-- VEHICLE: and every part of a vehicle's tables is
pub vehicle_exportable : Exportable vehicle
vehicle_exportable = record { counted = omega arith; channels = omega arith; status = omega arith; lines = omega arith }
