-- The entries of the tables, in both forms: which bytes are theirs, field by field. Assumes nothing.
use Rattle.lists.proofs.Kit.{◌≡◌, refl, sym, ap, ◌∙◌, subst, Bool, true, not, ◌↔◌, iff_rfl, iff_trans, iff_and, List, [], ◌∷◌, ◌++◌, map, ℕ, suc, ◌+◌, ◌*◌, ◌-◌, ◌%◌, ◌≤◌, ◌<◌, arith, mid_of, eqb, leb, length, drop, get_or, length-drop, drop-drop, get_or-drop}
use Rattle.lists.specs.Bytes.{Bytes}
use Rattle.slots.specs.Slots.{u16, u24, EntryOf}
use Rattle.slots.proofs.Pads.{pad_length}
use Rattle.writing.specs.declared.IndividualFlags.{IndividualFlags}
use Rattle.writing.specs.Ranges.{InNumber, InAddress, InChannel}
use Rattle.writing.specs.Settings.{Number}
use Rattle.writing.specs.Writing.{bit}
use Rattle.tables.specs.declared.members.Members.{Members}
use Rattle.tables.specs.declared.members.Members.TheVariants.{OfGroups, OfIndividuals}
use Rattle.tables.specs.Allowed.{TextOk, AddressOk}
use Rattle.tables.specs.Layout.{text_bytes, digit_bytes, digits_at, individual_flags}
use Rattle.tables.specs.MemberKinds.{FlagsIn, AddressIn, MemberIn, number_of}
use Rattle.tables.specs.Members.{member_ok, flags_of, member_bytes}
use Rattle.tables.proofs.AnswerLaws.{turned, leb_is, ne_is}
use Rattle.store_check.specs.declared.checks_tables.Table.TheVariants.{StatusTexts, Members as Of, Lines}
use Rattle.store_check.specs.declared.forms.Form.{Form}
use Rattle.store_check.specs.declared.forms.Form.TheVariants.{Placed, Shared}
use Rattle.store_check.specs.Checks.{Both, joined, TextIn, TextIs, text_in, short, NamedIs, named_in, LineIs, line_in, EntryIs}
use Rattle.store_check.proofs.CheckLaws.{Same, entry_same, parts_are, last_is, byte_is}
use Rattle.store_check.proofs.NumberChecks.{two_is, three_is, Flags, flags_are, id_type, group_flag, individual_flag}

-- ---- a byte of flags before an entry

module _ {F B : Type 0} (P : F → Type 0) (byte : F → ℕ) (R : ℕ → Type 0) (k : Flags P byte R) (Q : B → Type 0) (g : B → List ℕ) (s : List ℕ) (h : 0 < length s) where
  -- the first byte may be one of flags, and an entry stands behind it
  pub byte_then : (R (get_or s 0 0) × EntryOf Q g (drop 1 s)) ↔ EntryOf (Both P Q) (joined (λ f. byte f ∷ []) g) s
  byte_then =
      let e = byte_is s 0 h in
      let r = flags_are P byte R k (get_or s 0 0) in
      let t = parts_are P Q (λ f. byte f ∷ []) g 0 1 s (λ f p. refl) in (
        λ x. t.0 (subst (EntryOf P (λ f. byte f ∷ [])) (sym e) (r.0 x.0), x.1),
        λ z. let y = t.1 z in (r.1 (subst (EntryOf P (λ f. byte f ∷ [])) e y.0), y.1),
      )

-- ---- addresses

module _ (s : List ℕ) (l : length s ≡ 3) (b : Bytes s) (p : ℕ) (e : p ≡ get_or s 1 0 * 256 + get_or s 2 0) where
  -- three bytes are an address where the number that they make is in range
  address_is : InAddress (get_or s 0 0 * 65536 + p) ↔ EntryOf AddressOk u24 s
  address_is =
      let h : get_or s 0 0 * 65536 + p < 16777216 = omega (arith, b 0, b 1, b 2) in
      let t = three_is AddressOk s l b in (
        λ x. t.0 (subst (λ (q : ℕ). AddressOk (get_or s 0 0 * 65536 + q)) e (x, h)),
        λ x. subst (λ (q : ℕ). InAddress (get_or s 0 0 * 65536 + q)) (sym e) (t.1 x).0,
      )

  -- none is below 100000 hex
  pub address_low : get_or s 0 0 * 65536 + p < 1048576 → EntryOf AddressOk u24 s → ⊥
  address_low h x = omega (arith, (address_is.1 x).0)

  -- from there on the low 15 bits decide
  pub address_high : 1048576 ≤ get_or s 0 0 * 65536 + p → (not (eqb ((get_or s 0 0 * 65536 + p) % 32768) 0) ≡ true) ↔ EntryOf AddressOk u24 s
  address_high h = turned (not (eqb ((get_or s 0 0 * 65536 + p) % 32768) 0)) (ne_is _ _) (λ n. address_is.0 (h, n)) (λ x. (address_is.1 x).1)

-- ---- channels

module _ (s : List ℕ) (l : length s ≡ 2) (b : Bytes s) (p : ℕ) (e : p ≡ get_or s 0 0 * 256 + get_or s 1 0) where
  -- two bytes are a channel where the number that they make is in range
  channel_is : InChannel p ↔ EntryOf InChannel u16 s
  channel_is =
      let t = two_is InChannel s l b in
      (λ x. t.0 (subst InChannel e x), λ x. subst InChannel (sym e) (t.1 x))

  -- none is below 241
  pub channel_low : p < 241 → EntryOf InChannel u16 s → ⊥
  channel_low h x = omega (arith, (channel_is.1 x).0)

  -- from there on they go up to 640
  pub channel_high : 241 ≤ p → (leb p 640 ≡ true) ↔ EntryOf InChannel u16 s
  channel_high h = turned (leb p 640) (leb_is p 640) (λ n. channel_is.0 (h, n)) (λ x. (channel_is.1 x).1)

-- ---- entries that end with what stands for a text

-- a text that has no unit
no_text : TextOk short []
no_text = record { short = omega arith; units = tt }

module _ (f : Form) where
  -- what stands there
  abbrev Ends : TextIn f → Type 0
  Ends = TextIs f short

  abbrev end : TextIn f → List ℕ
  end = text_in f short

  -- it is all that stands behind a bytes
  end_is : (a : ℕ) (s : List ℕ) → EntryOf Ends end (mid_of a (length s - a) s) ↔ EntryOf Ends end (drop a s)
  end_is a s = last_is Ends end a (length s - a) s (omega arith)

-- ---- status texts

-- the byte 1
there : Flags (λ (f : Unit {0}). Unit {0}) (λ f. 1) (λ b. b ≡ 1)
there = record { of = λ b. tt; good = λ b r. tt; is = λ b r. sym r; back = λ f p. refl }

-- a status text is 1 and a text
pub status_is : (f : Form) (s : List ℕ) → 0 < length s → ((get_or s 0 0 ≡ 1) × EntryOf (TextIs f short) (text_in f short) (mid_of 1 (length s - 1) s)) ↔ EntryIs f StatusTexts s
status_is f s l =
    iff_trans (iff_and iff_rfl (end_is f 1 s))
    (iff_trans (byte_then (λ x. Unit {0}) (λ x. 1) (λ b. b ≡ 1) there (Ends f) (end f) s l)
    (entry_same (Both (λ x. Unit {0}) (Ends f)) (joined (λ x. 1 ∷ []) (end f)) (Ends f) (λ u. 1 ∷ end f u)
    (record { to = λ x. x.1; back = λ u. (tt, u); good = λ x p. p.1; back_good = λ u p. (tt, p); bytes = λ x p. refl; back_bytes = λ u p. refl }) s))

-- ---- groups and individuals

-- an address and a text
pub member_is : (f : Form) (s : List ℕ) → (EntryOf AddressOk u24 (mid_of 0 3 s) × EntryOf (TextIs f short) (text_in f short) (mid_of 3 (length s - 3) s)) ↔ EntryOf (Both AddressOk (TextIs f short)) (joined u24 (text_in f short)) s
member_is f s = iff_trans (iff_and iff_rfl (end_is f 3 s)) (parts_are AddressOk (Ends f) u24 (end f) 0 3 s (λ a p. refl))

-- flags that may stand before them, and the rules of the entry that has all three
record Named (w : Members) (P : FlagsIn w → Type 0) (R : ℕ → Type 0) : Type 0 where
  flags : Flags P (flags_of w) R
  address : ℕ → AddressIn w
  same : (n : ℕ) → number_of w (address n) ≡ n
  good : (g : MemberIn w) → P g.flags → AddressOk (number_of w g.address) → TextOk short g.text → member_ok w g
  back : (g : MemberIn w) → member_ok w g → P g.flags × (AddressOk (number_of w g.address) × TextOk short g.text)
  bytes : (g : MemberIn w) → member_bytes w g ≡ flags_of w g.flags ∷ u24 (number_of w g.address) ++ text_bytes short g.text

module _ (w : Members) (P : FlagsIn w → Type 0) (R : ℕ → Type 0) (k : Named w P R) where
  -- the three as one entry
  named_same : (f : Form) → Same (Both P (Both AddressOk (TextIs f short))) (joined (λ x. flags_of w x ∷ []) (joined u24 (text_in f short))) (NamedIs f w) (named_in f w)
  named_same Placed = record {
    to = λ x. record { flags = x.0; address = k.address x.1.0; text = x.1.1 };
    back = λ g. (g.flags, (number_of w g.address, g.text));
    good = λ x p. k.good _ p.0 (subst AddressOk (sym (k.same x.1.0)) p.1.0) p.1.1;
    back_good = k.back;
    bytes = λ x p. ap (λ (n : ℕ). flags_of w x.0 ∷ u24 n ++ text_bytes short x.1.1) (sym (k.same x.1.0)) ∙ sym (k.bytes _);
    back_bytes = λ g p. k.bytes g;
  }
  named_same Shared = record {
    to = λ x. record { flags = x.0; name = k.address x.1.0; units = x.1.1 };
    back = λ h. (h.flags, (number_of w h.name, h.units));
    good = λ x p. record { entry = k.good _ p.0 (subst AddressOk (sym (k.same x.1.0)) p.1.0) no_text; text = p.1.1 };
    back_good = λ h p. let b = k.back _ p.entry in (b.0, (b.1.0, p.text));
    bytes = λ x p. ap (λ (n : ℕ). flags_of w x.0 ∷ u24 n ++ (x.1.1 ∷ [])) (sym (k.same x.1.0));
    back_bytes = λ h p. refl;
  }

  -- a slot is a byte of flags, an address and a text
  slot_is : (f : Form) (s : List ℕ) → 0 < length s → (R (get_or s 0 0) × EntryOf (Both AddressOk (TextIs f short)) (joined u24 (text_in f short)) (mid_of 1 (length s - 1) s)) ↔ EntryIs f (Of w) s
  slot_is f s l =
      let Q = Both AddressOk (TextIs f short) in
      let g = joined u24 (text_in f short) in
      iff_trans (iff_and iff_rfl (last_is Q g 1 (length s - 1) s (omega arith)))
      (iff_trans (byte_then P (flags_of w) R k.flags Q g s l)
      (entry_same (Both P Q) (joined (λ x. flags_of w x ∷ []) g) (NamedIs f w) (named_in f w) (named_same f) s))

-- a group is flags and a member
pub group_is : (f : Form) (s : List ℕ) → 0 < length s → (((64 ≤ get_or s 0 0) × (get_or s 0 0 < 256)) × EntryOf (Both AddressOk (TextIs f short)) (joined u24 (text_in f short)) (mid_of 1 (length s - 1) s)) ↔ EntryIs f (Of OfGroups) s
group_is =
    slot_is OfGroups _ _ (record {
      flags = group_flag;
      address = λ n. record { 0 = n };
      same = λ n. refl;
      good = λ g p a t. record { attribute = p.0; priority = p.1; address = a; text = t };
      back = λ g p. ((p.attribute, p.priority), (p.address, p.text));
      bytes = λ g. refl;
    })

-- and so is an individual
pub individual_is : (f : Form) (s : List ℕ) → 0 < length s → ((get_or s 0 0 < 16) × EntryOf (Both AddressOk (TextIs f short)) (joined u24 (text_in f short)) (mid_of 1 (length s - 1) s)) ↔ EntryIs f (Of OfIndividuals) s
individual_is =
    slot_is OfIndividuals _ _ (record {
      flags = individual_flag;
      address = λ n. record { 0 = n };
      same = λ n. refl;
      good = λ g p a t. record { priority = p; address = a; text = t };
      back = λ g p. (p.priority, (p.address, p.text));
      bytes = λ g. refl;
    })

-- ---- line contacts

module _ (f : Form) where
  -- digits and a text
  abbrev Dialled : Number × TextIn f → Type 0
  Dialled = Both InNumber (TextIs f short)

  abbrev dialled : Number × TextIn f → List ℕ
  dialled = joined digit_bytes (text_in f short)

  -- flags, IDtype and these
  abbrev Called : IndividualFlags × (Bool × (Number × TextIn f)) → Type 0
  Called = Both (λ x. x.priority < 4) (Both (λ b. Unit {0}) Dialled)

  abbrev called : IndividualFlags × (Bool × (Number × TextIn f)) → List ℕ
  called = joined (λ x. individual_flags x ∷ []) (joined (λ b. bit b ∷ []) dialled)

-- are a line
line_same : (f : Form) → Same (Called f) (called f) (LineIs f) (line_in f)
line_same Placed = record {
  to = λ x. record { flags = record { encryption = x.0.encryption; emergency = x.0.emergency; priority = x.0.priority; pabx = x.1.0 }; number = x.1.1.0; text = x.1.1.1 };
  back = λ m. (record { encryption = m.flags.encryption; emergency = m.flags.emergency; priority = m.flags.priority }, (m.flags.pabx, (m.number, m.text)));
  good = λ x p. record { priority = p.0; number = p.1.1.0; text = p.1.1.1 };
  back_good = λ m p. (p.priority, (tt, (p.number, p.text)));
  bytes = λ x p. refl;
  back_bytes = λ m p. refl;
}
line_same Shared = record {
  to = λ x. record { flags = record { encryption = x.0.encryption; emergency = x.0.emergency; priority = x.0.priority; pabx = x.1.0 }; name = x.1.1.0; units = x.1.1.1 };
  back = λ h. (record { encryption = h.flags.encryption; emergency = h.flags.emergency; priority = h.flags.priority }, (h.flags.pabx, (h.name, h.units)));
  good = λ x p. record { entry = record { priority = p.0; number = p.1.1.0; text = no_text }; text = p.1.1.1 };
  back_good = λ h p. (p.entry.priority, (tt, (p.entry.number, p.text)));
  bytes = λ x p. refl;
  back_bytes = λ h p. refl;
}

-- a line is flags, IDtype, digits and a text
pub line_is : (f : Form) (s : List ℕ) → 1 < length s
    → ((get_or s 0 0 < 16) × ((get_or s 1 0 < 2) × (EntryOf InNumber digit_bytes (mid_of digits_at 18 s) × EntryOf (TextIs f short) (text_in f short) (mid_of 20 (length s - 20) s)))) ↔ EntryIs f Lines s
line_is f s l =
    iff_trans (iff_and iff_rfl
    (iff_trans (iff_and (turn (get_or-drop 1 s 0 0))
    (iff_trans (iff_and iff_rfl (end_is f 20 s))
    (iff_trans (parts_are InNumber (TextIs f short) digit_bytes (text_in f short) digits_at 18 s (λ ds p. pad_length 0 18 (map suc ds)))
    (moved (sym (drop-drop 1 1 s))))))
    (byte_then (λ b. Unit {0}) bit _ id_type (Dialled f) (dialled f) (drop 1 s) (omega (arith, length-drop 1 s)))))
    (iff_trans (byte_then _ individual_flags _ individual_flag (Both (λ b. Unit {0}) (Dialled f)) (joined (λ b. bit b ∷ []) (dialled f)) s (omega arith))
    (entry_same (Called f) (called f) (LineIs f) (line_in f) (line_same f) s))
  where
    turn : {a b : ℕ} → a ≡ b → (b < 2) ↔ (a < 2)
    turn e = (λ h. subst (λ (n : ℕ). n < 2) (sym e) h, λ h. subst (λ (n : ℕ). n < 2) e h)

    moved : {a b : List ℕ} → a ≡ b → EntryOf (Dialled f) (dialled f) a ↔ EntryOf (Dialled f) (dialled f) b
    moved e = (subst (EntryOf (Dialled f) (dialled f)) e, subst (EntryOf (Dialled f) (dialled f)) (sym e))
