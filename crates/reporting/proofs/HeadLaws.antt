-- A report's head, written before the parameters that follow it. Assumes nothing.
use Rattle.lists.proofs.Kit.{ℕ, ◌+◌, ◌-◌, ◌/◌, ◌%◌, ◌≤◌, ◌<◌, ◌≡◌, refl, sym, ap, ◌∙◌, subst, List, [], ◌∷◌, ◌++◌, arith, length}
use Rattle.slots.specs.Slots.{u16}
use Rattle.writing.specs.Canonical.{plain}
use Rattle.writing.specs.Carrier.{start_bytes, carrier}
use Rattle.writing.specs.Fields.{val, res}
use Rattle.export_write.specs.Writers.{Wrote}
use Rattle.export_write.proofs.PlainLaws.{plain_byte, plain_two}
use Rattle.export_write.proofs.WroteLaws.{wrote_before, wrote_as}
use Rattle.reports.specs.Cut.{report_head, report_bytes}
use Rattle.reports.specs.Items.{Item, items_bytes}
use Rattle.reporting.specs.Written.{Headed}

-- the carrier's bytes (as in export's RequestLaws, where they are not pub), and the first data bytes
carrier_is : (n : ℕ) → n < 65536 → plain (carrier n 7) ≡ u16 n ++ (8 ∷ 7 ∷ [])
carrier_is n l = plain_two n (val 16 n ∷ []) (val 8 0x08 ∷ res 4 ∷ val 4 7 ∷ []) refl (omega arith) l (2, refl) (omega arith, (tt, (omega arith, tt)))

module _ (total index n : ℕ) (x : total < 256) (y : index < 256) (z : n < 256) where
  head_is : plain (report_head total index n) ≡ 11 ∷ total ∷ index ∷ n ∷ []
  head_is =
      plain_byte 11 (val 5 1 ∷ val 3 3 ∷ []) (val 8 total ∷ val 8 index ∷ val 8 n ∷ []) refl refl (omega arith) (3, refl) (x, (y, (z, tt)))
      ∙ ap (λ (l : List ℕ). 11 ∷ l) (plain_byte total (val 8 total ∷ []) (val 8 index ∷ val 8 n ∷ []) refl (omega arith) x (2, refl) (y, (z, tt)))
      ∙ ap (λ (l : List ℕ). 11 ∷ total ∷ l) (plain_byte index (val 8 index ∷ []) (val 8 n ∷ []) refl (omega arith) y (1, refl) (z, tt))
      ∙ ap (λ (l : List ℕ). 11 ∷ total ∷ index ∷ l) (plain_byte n (val 8 n ∷ []) [] refl (omega arith) z (0, refl) tt)

  -- a report's head before any bytes
  headed_is : (all : List ℕ) → 6 + length all < 65536
      → start_bytes ++ plain (carrier (2 + length (plain (report_head total index n) ++ all)) 7) ++ (plain (report_head total index n) ++ all)
      ≡ (2 ∷ 2 ∷ u16 (6 + length all) ++ (8 ∷ 7 ∷ 11 ∷ total ∷ index ∷ n ∷ [])) ++ all
  headed_is all l =
      let k : 2 + length (11 ∷ total ∷ index ∷ n ∷ all) ≡ 6 + length all = omega arith in
      ap (λ (h : List ℕ). start_bytes ++ plain (carrier (2 + length (h ++ all)) 7) ++ (h ++ all)) head_is
      ∙ ap (λ (i : ℕ). start_bytes ++ plain (carrier i 7) ++ (11 ∷ total ∷ index ∷ n ∷ all)) k
      ∙ ap (λ (h : List ℕ). start_bytes ++ h ++ (11 ∷ total ∷ index ∷ n ∷ all)) (carrier_is (6 + length all) l)

-- the parameters were written, and then it
pub report_headed : (total index count end r : ℕ) (before after : List ℕ) → total < 256 → index < 256 → count < 256
    → Wrote (2 ∷ 2 ∷ ((end - 4) / 256 % 256) ∷ ((end - 4) % 256) ∷ 8 ∷ 7 ∷ 11 ∷ total ∷ index ∷ count ∷ []) 0 before after r
    → (10 ≤ end) × (end ≤ length before) × (end < 65540) → Headed total index count end before after end
report_headed total index count end r before after x y z w (low, _, high) = record { same = refl; report = all }
  where
    all : (items : List Item) (was : List ℕ) → length items ≡ count → Wrote (items_bytes items) 10 was before end → Wrote (report_bytes total index items) 0 was after end
    all items was n v =
        let k : end - 4 ≡ 6 + length (items_bytes items) = omega (arith, v.next) in
        let d : (end - 4) / 256 % 256 ≡ (6 + length (items_bytes items)) / 256 = omega (arith, v.next) in
        let e : (end - 4) % 256 ≡ (6 + length (items_bytes items)) % 256 = ap (λ (i : ℕ). i % 256) k in
        let head : List ℕ = 2 ∷ 2 ∷ ((end - 4) / 256 % 256) ∷ ((end - 4) % 256) ∷ 8 ∷ 7 ∷ 11 ∷ total ∷ index ∷ count ∷ [] in
        let is : head ++ items_bytes items ≡ report_bytes total index items
        = (λ i. 2 ∷ 2 ∷ d i ∷ e i ∷ 8 ∷ 7 ∷ 11 ∷ total ∷ index ∷ sym n i ∷ items_bytes items) ∙ sym (headed_is total index (length items) x y (omega arith) (items_bytes items) (omega arith)) in
        wrote_as (head ++ items_bytes items) (report_bytes total index items) 0 end was after is
        (wrote_before head (items_bytes items) 0 10 end was before after v (subst (λ (m : ℕ). Wrote head 0 before after m) w.next w))
