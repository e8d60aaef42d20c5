-- READ BACK: what is written is read, and nothing else. Assumes nothing.
use Prim.Native.Nat.{ℕ, zero, suc, ◌+◌, ◌-◌, ◌≤◌, ◌<◌}
use mathlib.Core.Path.{◌≡◌, refl, sym, ap, ◌∙◌, subst, subst⁻¹}
use mathlib.Core.Logic.{◌⊎◌, inl, inr}
use mathlib.Core.List.{List, [], ◌∷◌, ◌++◌, append-nil}
use native.Mathlib.Omega.{arith}
use lib.ListN.{length, get_or, length-append}
use lib.Seq.{ext_get_or}
use Rattle.lists.specs.Every.{All}
use Rattle.lists.proofs.Every.{all_get, all_turn, all_left, all_right}
use Rattle.lists.proofs.Seqs.{cut}
use Rattle.writing.specs.Canonical.{plain}
use Rattle.writing.specs.Carrier.{carrier, coding_type}
use Rattle.writing.specs.Fields.{bits_of}
use Rattle.writing.specs.Settings.{unicode16}
use Rattle.writing.proofs.CanonicalLaws.{plain_shows}
use Rattle.writing.proofs.Ends.{Agree, val_ends}
use Rattle.read_carrier.proofs.CarrierLaws.{wide_bytes, carries_one}
use Rattle.tables.specs.declared.limits.Limits.{Limits}
use Rattle.tables.specs.Allowed.{Allowed}
use Rattle.tables.specs.Tables.{Tables}
use Rattle.reports.specs.Asked.{asked}
use Rattle.reports.specs.Cut.{split, item_size, messages, report_head, report_data, report_bytes}
use Rattle.reports.specs.Items.{Item, item_bytes, items_bytes, ItemsWritten, InItem}
use Rattle.reports.specs.Reports.{ErrorLast, ReportOf, query_head, TypesOf}
use Rattle.reports.proofs.AskedLaws.{asked_in, asked_ends, known_last, last_left, last_right, last_map}
use Rattle.reports.proofs.ItemOne.{items_one}
use Rattle.reports.proofs.Sizes.{items_written, item_length}
use Rattle.reports.proofs.SplitLaws.{all, sizes, Fit, split_all, split_some, split_fits, split_filled}

-- ---- one message

-- ten bytes stand before the parameters
pub items_length : (l : List Item) → length (items_bytes l) ≡ sizes item_size l
items_length [] = refl
items_length (i ∷ l) = length-append (item_bytes i) (items_bytes l) ∙ ap (λ n. item_size i + n) (items_length l)

pub report_length : (total index : ℕ) (l : List Item) → length (report_bytes total index l) ≡ 10 + sizes item_size l
report_length total index l = omega (arith, items_length l)

-- REPORT IS: parameters in range, written as a message, are that report
pub report_is : (total index : ℕ) (l : List Item) → 1 ≤ index → index ≤ total → total ≤ 255 → length l ≤ 255 → sizes item_size l ≤ 65525
    → All InItem l → (1 ≤ length l) ⊎ (total ≡ 1) → ErrorLast (index ≡ total) l → ReportOf total index l (report_bytes total index l)
report_is total index l from to few count short p some last = record {
  data_bytes = report_data total index l;
  carried = record {
    stated = 2 + length (report_data total index l);
    header = plain (carrier (2 + length (report_data total index l)) (coding_type unicode16));
    whole = refl;
    fields = plain_shows (carrier (2 + length (report_data total index l)) 7) 4 refl (omega (arith, items_length l), (omega arith, (tt, (omega arith, tt))));
    length_field = inr refl;
  };
  head = plain (report_head total index (length l));
  rest = items_bytes l;
  parts = refl;
  says = plain_shows (report_head total index (length l)) 4 refl (omega arith, (omega arith, (omega arith, (omega arith, (omega arith, tt)))));
  from_1 = from;
  to_total = to;
  written = items_written l p;
  in_range = p;
  some_item = some;
  errors = last;
}

-- REPORTS ONE: a message is one report
pub reports_one : {n k i j : ℕ} {l o : List Item} {m : List ℕ} → ReportOf n i l m → ReportOf k j o m → (n ≡ k) × (i ≡ j) × (l ≡ o)
reports_one {n} {k} {i} {j} {l} {o} a b =
    let (c, e) = carries_one a.carried b.carried in
    let la : length a.head ≡ 4 = wide_bytes (report_head n i (length l)) 4 a.head refl a.says in
    let lb : length b.head ≡ 4 = wide_bytes (report_head k j (length o)) 4 b.head refl b.says in
    let (x, y) = cut a.head b.head (la ∙ sym lb) (sym a.parts ∙ e ∙ b.parts) in
    let g : Agree (report_head n i (length l)) (report_head k j (length o)) [] [] = record {
      one = bits_of a.head;
      two = bits_of b.head;
      left = a.says;
      right = b.says;
      same = ap (λ (z : List ℕ). bits_of z ++ []) x;
    } in
    let (p, g) = val_ends g in
    let (p, g) = val_ends g in
    let (p, g) = val_ends g in
    let (q, g) = val_ends g in
    (p, q, items_one l o b.rest a.in_range b.in_range (subst (ItemsWritten l) y a.written) b.written)

-- QUERIES ONE: a message asks for one list of types
pub queries_one : {s t m : List ℕ} → TypesOf s m → TypesOf t m → s ≡ t
queries_one {s} {t} a b =
    let (c, e) = carries_one a.carried b.carried in
    let la : length a.head ≡ 2 = wide_bytes (query_head (length s)) 2 a.head refl a.says in
    let lb : length b.head ≡ 2 = wide_bytes (query_head (length t)) 2 b.head refl b.says in
    (cut a.head b.head (la ∙ sym lb) (sym a.parts ∙ e ∙ b.parts)).1

-- ---- all messages of a report

all_parts : {A : Type 0} (P : A → Type 0) (gs : List (List A)) → All P (all gs) → All (All P) gs
all_parts P [] h = tt
all_parts P (g ∷ gs) h = (all_left P g (all gs) h, all_parts P gs (all_right P g (all gs) h))

-- an error ends the last message only
errors_at : (gs : List (List Item)) (j : ℕ) → j < length gs → All (λ g. 1 ≤ length g) gs ⊎ (length gs ≡ 1) → ErrorLast (Unit {0}) (all gs) → ErrorLast (suc j ≡ length gs) (get_or gs j [])
errors_at [] j l s h = absurd (omega arith)
errors_at (g ∷ []) zero l s h = last_map (Unit {0}) _ (λ u. refl) g (subst (ErrorLast (Unit {0})) (append-nil g) h)
errors_at (g ∷ []) (suc j) l s h = absurd (omega arith)
errors_at (g ∷ o ∷ gs) zero l (inl s) h = known_last _ g (last_left (Unit {0}) g (all (o ∷ gs)) (omega (arith, s.1.0, length-append o (all gs))) h)
errors_at (g ∷ o ∷ gs) (suc j) l (inl s) h =
    last_map (suc j ≡ length (o ∷ gs)) _ (λ e. ap suc e) (get_or (o ∷ gs) j []) (errors_at (o ∷ gs) j (omega arith) (inl s.1) (last_right (Unit {0}) g (all (o ∷ gs)) h))
errors_at (g ∷ o ∷ gs) j l (inr s) h = absurd (omega arith)

module _ (m : Limits) (t : Tables) (types : List ℕ) where
  -- WHOLE REPORT: the parameters of all messages, one after another, are what was asked for
  pub whole_report : all (messages m t types) ≡ asked t types
  unfolding messages
  whole_report = split_all item_size (m.message - 10) 255 0 0 (asked t types)

  pub some_message : 1 ≤ length (messages m t types)
  unfolding messages
  some_message = split_some item_size (m.message - 10) 255 0 0 (asked t types)

-- what is split is never empty, or one message
filled : (room : ℕ) (l : List Item) → All (λ i. item_size i ≤ room) l
    → All (λ g. 1 ≤ length g) (split item_size room 255 0 0 l) ⊎ (length (split item_size room 255 0 0 l) ≡ 1)
filled room [] p = inr refl
filled room (a ∷ l) p = inl (split_filled item_size room 255 (omega arith) a l p.0)

filled_at : (gs : List (List Item)) (j : ℕ) → j < length gs → All (λ g. 1 ≤ length g) gs ⊎ (length gs ≡ 1) → (1 ≤ length (get_or gs j [])) ⊎ (length gs ≡ 1)
filled_at gs j l (inl s) = inl (all_get (λ g. 1 ≤ length g) gs j [] s l)
filled_at gs j l (inr e) = inr e

module _ (m : Limits) (t : Tables) (types : List ℕ) (h : Allowed m t) (b : All (◌< 256) types) (wide : 61 ≤ m.message) where
  sizes_fit : All (λ i. item_size i ≤ m.message - 10) (asked t types)
  sizes_fit = all_turn InItem (λ i. item_size i ≤ m.message - 10) (λ i p. omega (arith, item_length i p)) (asked t types) (asked_in m t h types b)

  -- MESSAGES FIT: every message has at most the set's bytes, and 255 parameters
  pub messages_fit : All (Fit item_size (m.message - 10) 255) (messages m t types)
  unfolding messages
  messages_fit = split_fits item_size (m.message - 10) 255 (omega arith) (asked t types) sizes_fit

  messages_filled : All (λ g. 1 ≤ length g) (messages m t types) ⊎ (length (messages m t types) ≡ 1)
  unfolding messages
  messages_filled = filled (m.message - 10) (asked t types) sizes_fit

  messages_in : All (All InItem) (messages m t types)
  messages_in = all_parts InItem (messages m t types) (subst⁻¹ (All InItem) (whole_report m t types) (asked_in m t h types b))

  -- READ BACK: every message of a report is read as that one of so many, with its parameters
  pub read_back : (j : ℕ) → j < length (messages m t types) → length (messages m t types) ≤ 255 → m.message ≤ 65535
      → ReportOf (length (messages m t types)) (suc j) (get_or (messages m t types) j [])
      (report_bytes (length (messages m t types)) (suc j) (get_or (messages m t types) j []))
  read_back j l few short =
      let ms : List (List Item) = messages m t types in
      let f : Fit item_size (m.message - 10) 255 (get_or ms j []) = all_get (Fit item_size (m.message - 10) 255) ms j [] messages_fit l in
      report_is (length ms) (suc j) (get_or ms j []) (omega arith) (omega arith) few f.few (omega (arith, f.bytes))
      (all_get (All InItem) ms j [] messages_in l) (filled_at ms j l messages_filled)
      (errors_at ms j l messages_filled (subst⁻¹ (ErrorLast (Unit {0})) (whole_report m t types) (asked_ends t types)))

  -- WHOLE READ: what is read from all of a report's messages, one after another, is what was asked for
  pub whole_read : (read : List (List Item)) → length read ≡ length (messages m t types) → length (messages m t types) ≤ 255 → m.message ≤ 65535
      → ((j : ℕ) → j < length (messages m t types) → (n : ℕ) × (i : ℕ)
      × ReportOf n i (get_or read j []) (report_bytes (length (messages m t types)) (suc j) (get_or (messages m t types) j [])))
      → all read ≡ asked t types
  whole_read read e few short each =
      let ms : List (List Item) = messages m t types in
      let d : read ≡ ms = ext_get_or [] read ms e (λ j l. (reports_one (each j (omega arith)).2 (read_back j (omega arith) few short)).2) in
      ap all d ∙ whole_report m t types

  -- every message has the size of one
  pub message_long : (j : ℕ) → j < length (messages m t types)
      → (7 ≤ length (report_bytes (length (messages m t types)) (suc j) (get_or (messages m t types) j [])))
      × (length (report_bytes (length (messages m t types)) (suc j) (get_or (messages m t types) j [])) ≤ m.message)
  message_long j l =
      let ms : List (List Item) = messages m t types in
      let f : Fit item_size (m.message - 10) 255 (get_or ms j []) = all_get (Fit item_size (m.message - 10) 255) ms j [] messages_fit l in
      let e = report_length (length ms) (suc j) (get_or ms j []) in
      (omega arith, omega (arith, f.bytes))
