-- The heads of entries: their bytes fill the slot, are not all zeros and tell the head; the last is the number of units. An entry is its head and its text. Assumes nothing.
use Rattle.lists.proofs.Kit.{ℕ, suc, ◌≡◌, refl, sym, ap, ap₂, ◌∙◌, subst, Bool, true, false, ◌&&◌, true≢false, List, [], ◌∷◌, ◌++◌, head-eq_of_cons-eq, tail-eq_of_cons-eq, arith, ne_eqb, length, take, get_or, replicate, length-append, get_or_at, take_at}
use Rattle.lists.proofs.Bools.{is_false}
use Rattle.lists.specs.Bytes.{Bytes}
use Rattle.lists.proofs.Bytes.{bytes_append, bytes_cons, bytes_take, bytes_zeros}
use Rattle.lists.proofs.Seqs.{cut as cut_alike}
use Rattle.slots.specs.Slots.{u24, zeros?}
use Rattle.slots.proofs.Codes.{Code}
use Rattle.slots.proofs.Runs.{zeros_all, zeros_append}
use Rattle.writing.specs.Settings.{Text}
use Rattle.tables.specs.Allowed.{TextOk, QuickOk, StatusOk, LineOk, GroupOk, IndividualOk}
use Rattle.tables.specs.Layout.{text_bytes, line_bytes, group_bytes, individual_bytes, group_flags, individual_flags}
use Rattle.tables.specs.LineHeads.{head_bytes}
use Rattle.tables.specs.Tables.{Member}
use Rattle.tables.proofs.EntryBytes.{line_are_bytes, group_are_bytes, individual_are_bytes}
use Rattle.tables.proofs.EntryCodes.{line_code, line_shown, group_code, group_shown, individual_code, individual_shown}
use Rattle.tables.proofs.TextCodes.{digits_length}
use Rattle.tables.specs.Heads.{Halves, text_halves, line_halves, member_halves, HeadOk, QuickHeadOk, StatusHeadOk, LineHeadOk, GroupHeadOk, IndividualHeadOk, quick_head, status_head, line_head, group_head, individual_head, quick_own, status_own, member_own, line_own}
use Rattle.shared_texts.proofs.Rows.{Halved}

-- ---- an entry is its head and its text

quick_halved : Halved text_halves QuickOk QuickHeadOk
quick_halved =
    record {
      long = λ us. refl;
      again = λ us. refl;
      head_back = λ n us e. e;
      text_back = λ n us. refl;
      head_ok = λ us p. (p.some_unit, p.text.short);
      text_ok = λ us p. p.text.units;
      own_ok = λ n us q u e. record { some_unit = omega (arith, q.0); text = record { short = omega (arith, q.1); units = u } };
    }

status_halved : Halved text_halves StatusOk StatusHeadOk
status_halved =
    record {
      long = λ us. refl;
      again = λ us. refl;
      head_back = λ n us e. e;
      text_back = λ n us. refl;
      head_ok = λ us p. p.short;
      text_ok = λ us p. p.units;
      own_ok = λ n us q u e. record { short = omega arith; units = u };
    }

-- entries of which the rules allow each half by itself
record Parted {A H : Type 0} (k : Halves A H) (P : A → Type 0) : Type 0 where
  bare : (a : A) → P a → P (k.join (k.head a) [])
  text : (a : A) → P a → TextOk 16 (k.text a)
  whole : (h : H) (us : Text) → P (k.join h []) → TextOk 16 us → P (k.join h us)

-- a text that has no unit
no_text : (n : ℕ) → TextOk n []
no_text n = record { short = omega arith; units = tt }

line_halved : Halved line_halves LineOk LineHeadOk
line_halved =
    record {
      long = λ l. refl;
      again = λ l. refl;
      head_back = λ h us e i. record { flags = h.flags; name = h.name; units = e i };
      text_back = λ h us. refl;
      head_ok = λ l p. record { entry = record { priority = p.priority; number = p.number; text = no_text 16 }; text = p.text.short };
      text_ok = λ l p. p.text.units;
      own_ok = λ h us q u e. record { priority = q.entry.priority; number = q.entry.number; text = record { short = omega (arith, q.text); units = u } };
    }

-- groups and individuals
member_halved : {F A : Type 0} (P : Member F A → Type 0) → Parted member_halves P → Halved member_halves P (HeadOk member_halves P)
member_halved P m =
    record {
      long = λ g. refl;
      again = λ g. refl;
      head_back = λ h us e i. record { flags = h.flags; name = h.name; units = e i };
      text_back = λ h us. refl;
      head_ok = λ g p. record { entry = m.bare g p; text = (m.text g p).short };
      text_ok = λ g p. (m.text g p).units;
      own_ok = λ h us q u e. m.whole h us q.entry (record { short = omega (arith, q.text); units = u });
    }

group_halved : Halved member_halves GroupOk GroupHeadOk
group_halved =
    member_halved GroupOk (record {
      bare = λ g p. record { attribute = p.attribute; priority = p.priority; address = p.address; text = no_text 16 };
      text = λ g p. p.text;
      whole = λ h us p t. record { attribute = p.attribute; priority = p.priority; address = p.address; text = t };
    })

individual_halved : Halved member_halves IndividualOk IndividualHeadOk
individual_halved =
    member_halved IndividualOk (record {
      bare = λ g p. record { priority = p.priority; address = p.address; text = no_text 16 };
      text = λ g p. p.text;
      whole = λ h us p t. record { priority = p.priority; address = p.address; text = t };
    })

-- ---- a head's bytes

-- they fill a slot of w and one more, tell the head, are not all zeros, are bytes, and the last is the number of units
pub record Headed {H : Type 0} (units : H → ℕ) (Q : H → Type 0) (w : ℕ) (f : H → List ℕ) : Type 0 where
  pub code : Code Q (suc w) f
  pub shown : (h : H) → Q h → zeros? (f h) ≡ false
  pub are_bytes : (h : H) → Q h → Bytes (f h)
  pub last : (h : H) → get_or (f h) w 0 ≡ units h

-- a quick text
quick_headed : Headed (λ n. n) QuickHeadOk quick_own quick_head
quick_headed =
    record {
      code = record { long = λ n. refl; one = λ n k p q e. head-eq_of_cons-eq e };
      shown = λ n p. ap (λ (b : Bool). b && true) (ne_eqb n 0 (λ e. omega (arith, p.0)));
      are_bytes = λ n p. bytes_cons n [] (omega (arith, p.1)) (bytes_zeros 0);
      last = λ n. refl;
    }

-- a status text
status_headed : Headed (λ n. n) StatusHeadOk status_own status_head
status_headed =
    record {
      code = record { long = λ n. refl; one = λ n k p q e. head-eq_of_cons-eq (tail-eq_of_cons-eq e) };
      shown = λ n p. refl;
      are_bytes = λ n p. bytes_cons 1 (n ∷ []) (omega arith) (bytes_cons n [] (omega arith) (bytes_zeros 0));
      last = λ n. refl;
    }

-- an entry with an empty text: f are its bytes, and x those before its text
module _ {A H : Type 0} (k : Halves A H) (P : A → Type 0) (w z : ℕ) (x : H → List ℕ) (f : A → List ℕ) where
  record Bare : Type 0 where
    bytes : (h : H) → f (k.join h []) ≡ x h ++ replicate z 0
    long : (h : H) → length (x h) ≡ w
    told : (h j : H) → k.join h [] ≡ k.join j [] → k.units h ≡ k.units j → h ≡ j
    one : (a b : A) → P a → P b → f a ≡ f b → a ≡ b
    shown : (a : A) → P a → zeros? (f a) ≡ false
    are_bytes : (a : A) → P a → Bytes (f a)

  -- those bytes and the number of units
  abbrev counting : H → List ℕ
  counting h = x h ++ (k.units h ∷ [])

  -- have what a head's bytes have
  bare_headed : Bare → Headed k.units (HeadOk k P) w counting
  bare_headed m =
      record {
        code = record { long = λ h. omega (arith, length-append (x h) (k.units h ∷ []), m.long h); one = tell };
        shown = λ h p. zeros_append (x h) (k.units h ∷ []) ∙ ap (λ (b : Bool). b && zeros? (k.units h ∷ [])) (own_shown h p);
        are_bytes = λ h p.
            bytes_append (x h) (k.units h ∷ [])
            (subst Bytes (ap (take w) (m.bytes h) ∙ take_at (x h) (replicate z 0) w (m.long h)) (bytes_take w (f (k.join h [])) (m.are_bytes (k.join h []) p.entry)))
            (bytes_cons (k.units h) [] (omega (arith, p.text)) (bytes_zeros 0));
        last = λ h. get_or_at (x h) (k.units h) [] 0 w (m.long h);
      }
    where
      tell : (h j : H) → HeadOk k P h → HeadOk k P j → counting h ≡ counting j → h ≡ j
      tell h j p q e =
          let c = cut_alike (x h) (x j) (m.long h ∙ sym (m.long j)) e in
          let b : f (k.join h []) ≡ f (k.join j []) = m.bytes h ∙ ap (λ (l : List ℕ). l ++ replicate z 0) c.0 ∙ sym (m.bytes j) in
          m.told h j (m.one (k.join h []) (k.join j []) p.entry q.entry b) (head-eq_of_cons-eq c.1)

      own_shown : (h : H) → HeadOk k P h → zeros? (x h) ≡ false
      own_shown h p =
          is_false (zeros? (x h)) (λ e.
          let s = ap zeros? (m.bytes h) ∙ zeros_append (x h) (replicate z 0) ∙ ap₂ (λ (a b : Bool). a && b) e (zeros_all z) in
          true≢false (sym s ∙ m.shown (k.join h []) p.entry))

-- a line
line_headed : Headed (λ h. h.units) LineHeadOk line_own line_head
line_headed =
    bare_headed line_halves LineOk line_own 32 (λ h. head_bytes h.flags h.name) line_bytes (record {
      bytes = λ h. refl;
      long = λ h. ap (λ (i : ℕ). suc (suc i)) (digits_length h.name);
      told = λ h j e u i. record { flags = (e i).flags; name = (e i).number; units = u i };
      one = line_code.one;
      shown = line_shown;
      are_bytes = line_are_bytes;
    })

-- a group or an individual
member_headed : {F A : Type 0} (P : Member F A → Type 0) (flags_of : F → ℕ) (number_of_lem : A → ℕ) (f : Member F A → List ℕ) → ((g : Member F A) → f g ≡ flags_of g.flags ∷ u24 (number_of_lem g.address) ++ text_bytes 16 g.text)
    → ((a b : Member F A) → P a → P b → f a ≡ f b → a ≡ b) → ((a : Member F A) → P a → zeros? (f a) ≡ false) → ((a : Member F A) → P a → Bytes (f a))
    → Headed (λ h. h.units) (HeadOk member_halves P) member_own (λ h. flags_of h.flags ∷ u24 (number_of_lem h.name) ++ (h.units ∷ []))
member_headed P flags_of number_of_lem f is one shown are_bytes =
    bare_headed member_halves P member_own 32 (λ h. flags_of h.flags ∷ u24 (number_of_lem h.name)) f (record {
      bytes = λ h. is (member_halves.join h []);
      long = λ h. refl;
      told = λ h j e u i. record { flags = (e i).flags; name = (e i).address; units = u i };
      one = one;
      shown = shown;
      are_bytes = are_bytes;
    })

group_headed : Headed (λ h. h.units) GroupHeadOk member_own group_head
group_headed = member_headed GroupOk group_flags (λ a. a.0) group_bytes (λ g. refl) group_code.one group_shown group_are_bytes

individual_headed : Headed (λ h. h.units) IndividualHeadOk member_own individual_head
individual_headed = member_headed IndividualOk individual_flags (λ a. a.0) individual_bytes (λ g. refl) individual_code.one individual_shown individual_are_bytes

-- ---- what is kept of an entry: the two halves of its kind, and its head's bytes
pub record Kept {A H : Type 0} (k : Halves A H) (P : A → Type 0) (Q : H → Type 0) (own : ℕ) (f : H → List ℕ) : Type 0 where
  pub halved : Halved k P Q
  pub headed : Headed k.units Q own f

pub quick_kept : Kept text_halves QuickOk QuickHeadOk quick_own quick_head
quick_kept = record { halved = quick_halved; headed = quick_headed }

pub status_kept : Kept text_halves StatusOk StatusHeadOk status_own status_head
status_kept = record { halved = status_halved; headed = status_headed }

pub line_kept : Kept line_halves LineOk LineHeadOk line_own line_head
line_kept = record { halved = line_halved; headed = line_headed }

pub group_kept : Kept member_halves GroupOk GroupHeadOk member_own group_head
group_kept = record { halved = group_halved; headed = group_headed }

pub individual_kept : Kept member_halves IndividualOk IndividualHeadOk member_own individual_head
individual_kept = record { halved = individual_halved; headed = individual_headed }
