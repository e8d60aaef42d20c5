-- A message that opens as a report: its total, index and count in three bytes, and its parameters from byte 10 on. Assumes nothing.
use Rattle.lists.proofs.Kit.{ℕ, ◌/◌, ◌%◌, ◌≤◌, ◌≡◌, refl, sym, ap, ◌∙◌, subst, subst⁻¹, ◌≢◌, Bool, true, false, not, not-true, not-false, eqb, eqb-true, eq-eqb, ◌⊎◌, inl, inr, List, [], ◌∷◌, ◌++◌, arith, length, drop, take, drop-drop, drop_at}
use Rattle.lists.specs.Bytes.{Bytes}
use Rattle.lists.proofs.Seqs.{cut}
use Rattle.writing.specs.Carrier.{carrier, Carries, first_byte, Opens, InSize, NothingCarried}
use Rattle.writing.specs.Fields.{val}
use Rattle.read_fields.specs.Places.{FieldsAt, be}
use Rattle.read_fields.proofs.Heads.{Cut, head_in, head_out}
use Rattle.read_fields.proofs.Parts.{nothing, part_join, part_split}
use Rattle.read_carrier.proofs.CarrierLaws.{wide_bytes, part_rest}
use Rattle.read_carrier.proofs.MessageOne.{opens_one}
use Rattle.reports.specs.Cut.{report_head}
use Rattle.reports.specs.Items.{Item, ItemsWritten}
use Rattle.reports.specs.Reports.{ReportOf, NoReport}
use Rattle.reports.proofs.AskedLaws.{last_map}
use Rattle.reports.proofs.CallRead.{report_opens, report_answers}
use Rattle.report_reading.specs.Reading.{ReadAs}
use Rattle.report_reading.specs.Readers.{WalkIs, HeadRefused, HeadOk}
use Rattle.report_reading.specs.declared.messages.ReportRead.TheVariants.{Size, Carrier, OtherType, Version, NoReport as NoneRead, Report}

-- ---- where the parts of a report stand

-- data bytes stand from byte 6 on
carried_at : {coding : ℕ} {ds m : List ℕ} → Carries coding ds m → drop 6 m ≡ ds
carried_at {coding} {ds} {m} k =
    sym (drop-drop 4 2 m) ∙ ap (λ (l : List ℕ). drop 4 (drop 2 l)) k.whole
    ∙ drop_at k.header ds 4 (wide_bytes (carrier k.stated coding) 4 k.header refl k.fields)

module _ {total index : ℕ} {items : List Item} {m : List ℕ} (r : ReportOf total index items m) where
  -- a report's head stands from byte 6 to byte 10
  pub head_stands : FieldsAt (report_head total index (length items)) m 6 10
  head_stands =
      let n : length r.head ≡ 4 = wide_bytes (report_head total index (length items)) 4 r.head refl r.says in
      record { bytes = r.head; rest = r.rest; split = carried_at r.carried ∙ r.parts; ends = omega arith; written = r.says }

  -- and its parameters behind it
  pub items_stand : ItemsWritten items (drop 10 m)
  unfolding head_stands
  items_stand =
      let e : r.head ++ r.rest ≡ r.head ++ drop 10 m = sym (carried_at r.carried ∙ r.parts) ∙ part_rest head_stands in
      subst (ItemsWritten items) (cut r.head r.head refl e).1 r.written

-- ---- the three bytes behind the first data byte

module _ (m : List ℕ) (h : Bytes m) where
  -- they say total, index and count
  head_says : {total index : ℕ} {items : List Item} → ReportOf total index items m
      → (10 ≤ length m) × Cut (val 8 total ∷ val 8 index ∷ val 8 (length items) ∷ []) (be 0 (take 3 (drop 7 m)))
  head_says {total} {index} {items} r =
      let fs = val 8 total ∷ val 8 index ∷ val 8 (length items) ∷ [] in
      let (a, b) = part_split (first_byte 1 3) fs m 6 1 10 refl (head_stands r) in
      let (room, k, z) = head_out fs [] m 7 3 refl (omega arith) h 10 b in
      (room, k)

  -- no report where they are missing
  pub no_head : (10 ≤ length m → ⊥) → NoReport m
  no_head never total index items r = never (head_says r).0

  module _ {N : ℕ} (bytes : N ≡ be 0 (take 3 (drop 7 m))) where
    abbrev T : ℕ
    T = N / 65536 % 256

    abbrev I : ℕ
    I = N / 256 % 256

    says : {total index : ℕ} {items : List Item} → ReportOf total index items m → (T ≡ total) × (I ≡ index) × (N % 256 ≡ length items)
    says {total} {index} {items} r =
        let k = subst⁻¹ (Cut (val 8 total ∷ val 8 index ∷ val 8 (length items) ∷ [])) bytes (head_says r).1 in
        (k.0, k.1.0, omega (arith, k.1.1.0))

    -- no report where they are out of range
    pub bad_head : (r : Bool) → HeadRefused T I (N % 256) r → r ≡ true → NoReport m
    bad_head b w d total index items r =
        let (t, i, n) = says r in
        let ok : HeadOk total index (length items) = record { from_1 = r.from_1; to_total = r.to_total; some_item = r.some_item } in
        subst (HeadRefused T I (N % 256)) d w (subst⁻¹ (λ (x : ℕ × ℕ × ℕ). HeadOk x.0 x.1 x.2) (λ j. (t j, i j, n j)) ok)

    -- none where as many parameters do not stand behind them
    pub bad_walk : (r : Bool) → WalkIs m (N % 256) (eqb I T) r → not r ≡ true → NoReport m
    bad_walk r w d total index items o =
        let (t, i, n) = says o in
        subst (WalkIs m (N % 256) (eqb I T)) (not-true r d) w (record {
          items = items;
          counted = sym n;
          in_range = o.in_range;
          written = items_stand o;
          errors = last_map (index ≡ total) (eqb I T ≡ true) (λ e. eq-eqb I T (i ∙ e ∙ sym t)) items o.errors;
        })

    -- the report where they do
    pub the_report : (r s : Bool) → Opens 1 3 7 (drop 6 m) m → 10 ≤ length m → HeadRefused T I (N % 256) r → r ≡ false → WalkIs m (N % 256) (eqb I T) s → not s ≡ false
        → (items : List Item) × (length items ≡ N % 256) × ReportOf T I items m
    the_report r s o room w d v e =
        let ok = subst (HeadRefused T I (N % 256)) d w in
        let z = subst (WalkIs m (N % 256) (eqb I T)) (not-false s e) v in
        let fs = val 8 T ∷ val 8 I ∷ val 8 (length z.items) ∷ [] in
        let first : FieldsAt (first_byte 1 3) m 6 7
        = record { bytes = o.first ∷ []; rest = o.rest; split = o.parts; ends = refl; written = o.says } in
        let y : FieldsAt (report_head T I (length z.items)) m 6 10 = part_join (first_byte 1 3) fs m 6 7 10 first
        (head_in fs [] m 7 3 refl (omega arith) h 10 room (subst (Cut fs) bytes (refl, (refl, (omega (arith, z.counted), tt)))) (nothing m 10)) in (
          z.items,
          z.counted,
          record {
            data_bytes = drop 6 m;
            carried = o.carried;
            head = y.bytes;
            rest = drop 10 m;
            parts = part_rest y;
            says = y.written;
            from_1 = ok.from_1;
            to_total = ok.to_total;
            written = z.written;
            in_range = z.in_range;
            some_item = subst⁻¹ (λ (n : ℕ). (1 ≤ n) ⊎ (T ≡ 1)) z.counted ok.some_item;
            errors = last_map (eqb I T ≡ true) (I ≡ T) (λ q. eqb-true I T q) z.items z.errors;
          },
        )

-- ---- the answers

module _ (most : ℕ) (m : List ℕ) where
  pub out_of_size : (InSize most m → ⊥) → ReadAs most m Size
  out_of_size n = ([], refl, inl (n, refl))

  module _ (s : InSize most m) where
    pub not_carried : NothingCarried m → ReadAs most m Carrier
    not_carried n = ([], refl, inr (λ k. k s, inl (n, refl)))

    pub a_report : {total index count : ℕ} (items : List Item) → length items ≡ count → ReportOf total index items m → ReadAs most m (Report total index count)
    a_report items e r = (items, e, report_answers most s r)

    module _ {v k c : ℕ} (o : Opens v k c (drop 6 m) m) where
      pub other_type : k ≢ 3 → ReadAs most m OtherType
      other_type n =
          ([], refl, inr (λ x. x s, inr (λ x. x c (drop 6 m) o.carried, inl (λ w l d x e p. n ((opens_one o p).1 ∙ e), refl))))

      module _ (e : k ≡ 3) where
        pub other_version : v ≢ 1 → ReadAs most m Version
        other_version n =
            ([], refl, inr (λ x. x s, inr (λ x. x c (drop 6 m) o.carried, inr (λ x. x v k c (drop 6 m) e o, inl (λ l d x p. n (opens_one o p).0, refl)))))

        module _ (d : v ≡ 1) where
          opened : Opens 1 k c (drop 6 m) m
          opened = subst (λ (i : ℕ). Opens i k c (drop 6 m) m) d o

          pub no_report : NoReport m → ReadAs most m NoneRead
          no_report n = (
            [],
            refl,
            inr (
              λ x. x s,
              inr (λ x. x c (drop 6 m) o.carried, inr (λ x. x v k c (drop 6 m) e o, inr (λ x. x k c (drop 6 m) opened, inl (n, refl)))),
            ),
          )

          -- a report has coding type 0111
          pub other_coding : c ≢ 7 → ReadAs most m NoneRead
          other_coding n = no_report (λ total index items r. n (opens_one o (report_opens r)).2)

-- what was opened, by the numbers that were found
pub opens_7 : {v k c : ℕ} {ds m : List ℕ} → v ≡ 1 → k ≡ 3 → c ≡ 7 → Opens v k c ds m → Opens 1 3 7 ds m
opens_7 {ds = ds} {m = m} e d f o = subst (λ (x : ℕ × ℕ × ℕ). Opens x.0 x.1 x.2 ds m) (λ i. (e i, d i, f i)) o
