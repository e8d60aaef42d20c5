-- The carrier of a message: start bytes, and four bytes read as one number. Assumes nothing.
use Rattle.lists.proofs.Kit.{ℕ, suc, ◌+◌, ◌-◌, ◌*◌, ◌/◌, ◌%◌, ◌≤◌, ◌<◌, ◌≡◌, refl, sym, ap, ap₂, ◌∙◌, subst, subst⁻¹, List, [], ◌∷◌, ◌++◌, Bool, true, false, not, arith, length, get_or, drop, take, length-drop, drop-cons, drop-drop, drop_at, drop-append_seam, not-true, not-false}
use Rattle.lists.specs.Bytes.{Bytes}
use Rattle.lists.proofs.Seqs.{cut}
use Rattle.writing.specs.Fields.{bits_of, Field, Shows, widths}
use Rattle.writing.specs.Carrier.{start_bytes, carrier, States, Carries, first_byte, Opens}
use Rattle.writing.proofs.Bits.{shows_length, length_bits_of}
use Rattle.writing.proofs.Ends.{Agree, val_ends, res_ends}
use Rattle.read_fields.specs.Places.{FieldsAt, be}
use Rattle.read_carrier.specs.Message.{StartsWith, LengthIs, CarrierIs}
use Rattle.std.specs.Prelude.{Some, None}
use Rattle.read_fields.proofs.Heads.{Cut, cut_in, cut_out, head_in, head_out, be_small}
use Rattle.read_fields.proofs.Parts.{nothing}

-- ---- parts and bytes

-- fields of whole bytes take as many bytes
pub wide_bytes : (fs : List Field) (k : ℕ) (bs : List ℕ) → widths fs ≡ 8 * k → Shows fs (bits_of bs) → length bs ≡ k
wide_bytes fs k bs w s = omega (arith, w, length_bits_of bs, shows_length fs (bits_of bs) s)

-- after a part stands what follows its end
pub part_rest : {fs : List Field} {m : List ℕ} {from next : ℕ} (p : FieldsAt fs m from next) → drop from m ≡ p.bytes ++ drop next m
part_rest {fs} {m} {from} {next} p =
    let e : drop next m ≡ p.rest
    = ap (λ i. drop i m) p.ends ∙ sym (drop-drop (length p.bytes) from m) ∙ ap (drop (length p.bytes)) p.split
    ∙ drop-append_seam p.bytes p.rest in
    p.split ∙ ap (λ (l : List ℕ). p.bytes ++ l) (sym e)

-- a byte is a number of one byte
pub one_byte : (m : List ℕ) (i : ℕ) → i < length m → be 0 (take 1 (drop i m)) ≡ get_or m i 0
one_byte m i l = ap (λ (x : List ℕ). be 0 (take 1 x)) (drop-cons m i 0 l) ∙ (let e : 0 * 256 + get_or m i 0 ≡ get_or m i 0 = omega arith in e)

-- ---- the start bytes

-- bytes that are the start bytes
pub start_in : (m : List ℕ) → 2 ≤ length m → get_or m 0 0 ≡ 2 → get_or m 1 0 ≡ 2 → StartsWith m true
start_in [] l a b = absurd (omega arith)
start_in (x ∷ []) l a b = absurd (omega arith)
start_in (x ∷ y ∷ m) l a b = ap₂ (λ p q. p ∷ q ∷ m) a b

-- the bytes of a message that starts so
pub start_out : (m rest : List ℕ) → m ≡ start_bytes ++ rest → (2 ≤ length m) × (get_or m 0 0 ≡ 2) × (get_or m 1 0 ≡ 2)
start_out m rest e =
    let l : length m ≡ suc (suc (length rest)) = ap length e in
    (omega arith, ap (λ (l : List ℕ). get_or l 0 0) e, ap (λ (l : List ℕ). get_or l 1 0) e)

-- ---- the length

-- a length that was found wrong, and one that was not
pub length_wrong : (stated after n : ℕ) (r : Bool) → LengthIs stated after r → after ≡ n → not r ≡ true → States stated n → ⊥
length_wrong stated after n r k e t s = subst (LengthIs stated after) (not-true r t) k (subst⁻¹ (States stated) e s)

pub length_right : (stated after n : ℕ) (r : Bool) → LengthIs stated after r → after ≡ n → not r ≡ false → States stated n
length_right stated after n r k e t = subst (States stated) e (subst (LengthIs stated after) (not-false r t) k)

-- ---- the four bytes after them

-- the carrier's fields as one number says them
pub record Head (m : List ℕ) (N coding : ℕ) : Type 0 where
  pub room : 6 ≤ length m
  pub starts : m ≡ start_bytes ++ drop 2 m
  pub length_field : States (N / 65536) (length m - 4)
  pub mfid : N / 256 % 256 ≡ 8
  pub coded : N % 16 ≡ coding

module _ (m : List ℕ) (h : Bytes m) {N : ℕ} (number : N ≡ be 0 (take 4 (drop 2 m))) where
  -- the carrier's number is of 32 bits
  small : 6 ≤ length m → N < 4294967296
  small room = rw number (be_small m 2 4 h room)

  -- a message that carries data bytes has a carrier, and they are what follows it
  pub carries_out : (coding : ℕ) (data_bytes : List ℕ) → Carries coding data_bytes m → Head m N coding × (data_bytes ≡ drop 6 m)
  carries_out coding data_bytes k =
      let lh : length k.header ≡ 4 = wide_bytes (carrier k.stated coding) 4 k.header refl k.fields in
      let e : drop 2 m ≡ k.header ++ data_bytes = ap (drop 2) k.whole in
      let p : FieldsAt (carrier k.stated coding) m 2 6
      = record { bytes = k.header; rest = data_bytes; split = e; ends = omega arith; written = k.fields } in
      let (room, c, q) = head_out (carrier k.stated coding) [] m 2 4 refl (omega arith) h 6 p in
      let c' = subst (Cut (carrier k.stated coding)) (sym number) c in
      let s : N / 65536 ≡ k.stated = omega (arith, small room, c'.0) in
      let d : drop 6 m ≡ data_bytes = sym (drop-drop 4 2 m) ∙ ap (drop 4) e ∙ drop_at k.header data_bytes 4 lh in
      let l : length m - 4 ≡ 2 + length data_bytes = omega (arith, sym (ap length d) ∙ length-drop 6 m) in (
        record {
          room = room;
          starts = k.whole ∙ ap (λ (l : List ℕ). start_bytes ++ l) (sym e);
          length_field = subst (λ (a : ℕ). States a (length m - 4)) (sym s) (subst (States k.stated) (sym l) k.length_field);
          mfid = omega (arith, c'.1.0);
          coded = omega (arith, c'.1.1.1.0);
        },
        sym d,
      )

  -- a message with a carrier carries what follows it
  pub carries_in : (coding : ℕ) → Head m N coding → CarrierIs m (Some coding)
  carries_in coding k =
      let p : FieldsAt (carrier (N / 65536) coding) m 2 6 = head_in (carrier (N / 65536) coding) [] m 2 4 refl (omega arith) h 6 k.room
      (subst (Cut (carrier (N / 65536) coding)) number (omega (arith, small k.room), (omega (arith, k.mfid), (tt, (omega (arith, k.coded), tt))))) (nothing m 6) in
      let l : length m - 4 ≡ 2 + length (drop 6 m) = omega (arith, length-drop 6 m, k.room) in record {
        stated = N / 65536;
        header = p.bytes;
        whole = k.starts ∙ ap (λ (l : List ℕ). start_bytes ++ l) (part_rest p);
        fields = p.written;
        length_field = subst (States (N / 65536)) l k.length_field;
      }

  -- where no coding type makes it a carrier nothing is carried
  pub not_carried : ((coding : ℕ) → Head m N coding → ⊥) → CarrierIs m None
  not_carried never coding data_bytes k = never coding (carries_out coding data_bytes k).0

-- CARRIES ONE: a message carries its data bytes under one coding type, and no others
pub carries_one : {coding coding' : ℕ} {ds ds' m : List ℕ} → Carries coding ds m → Carries coding' ds' m → (coding ≡ coding') × (ds ≡ ds')
carries_one {coding} {coding'} {ds} {ds'} a b =
    let la : length a.header ≡ 4 = wide_bytes (carrier a.stated coding) 4 a.header refl a.fields in
    let lb : length b.header ≡ 4 = wide_bytes (carrier b.stated coding') 4 b.header refl b.fields in
    let e : a.header ++ ds ≡ b.header ++ ds' = ap (drop 2) (sym a.whole ∙ b.whole) in
    let (p, q) = cut a.header b.header (la ∙ sym lb) e in
    let g : Agree (carrier a.stated coding) (carrier b.stated coding') [] [] = record {
      one = bits_of a.header;
      two = bits_of b.header;
      left = a.fields;
      right = b.fields;
      same = ap (λ (l : List ℕ). bits_of l ++ []) p;
    } in
    let (s, g) = val_ends g in
    let (z, g) = val_ends g in
    let (c, g) = val_ends (res_ends g) in
    (c, q)

-- ---- the first data byte

-- the first data byte says its version and type
pub opens_in : (m : List ℕ) (coding version kind : ℕ) {N : ℕ} → Bytes m → N ≡ be 0 (take 1 (drop 6 m)) → 7 ≤ length m → Carries coding (drop 6 m) m
    → N / 8 % 32 ≡ version → N % 8 ≡ kind → Opens version kind coding (drop 6 m) m
opens_in m coding version kind {N} h number l k v t =
    let e : N ≡ get_or m 6 0 = number ∙ one_byte m 6 (omega arith) in
    let b : N < 256 = rw e (h 6) in record {
      carried = k;
      first = N;
      rest = drop 7 m;
      parts = drop-cons m 6 0 (omega arith) ∙ ap (λ (x : ℕ). x ∷ drop 7 m) (sym e);
      says = cut_in (first_byte version kind) N (omega arith, (omega arith, tt));
    }

-- the same version and type under other names
pub opens_as : {version version' kind kind' coding : ℕ} {d m : List ℕ} → version ≡ version' → kind ≡ kind' → Opens version kind coding d m
    → Opens version' kind' coding d m
opens_as {coding} {d} {m} v k o = subst (λ (x : ℕ × ℕ). Opens x.0 x.1 coding d m) (λ i. (v i, k i)) o

-- the first data byte, as it was read, is cut into version and type
pub opens_cut : {version kind coding : ℕ} {m : List ℕ} → Opens version kind coding (drop 6 m) m → Cut (first_byte version kind) (be 0 (take 1 (drop 6 m)))
opens_cut {version} {kind} {coding} {m} o =
    let e : be 0 (take 1 (drop 6 m)) ≡ o.first = ap (λ (l : List ℕ). be 0 (take 1 l)) o.parts ∙ (let z : 0 * 256 + o.first ≡ o.first = omega arith in z) in
    subst⁻¹ (Cut (first_byte version kind)) e (cut_out (first_byte version kind) o.first o.says)

-- a message that has a first data byte has seven bytes
pub opens_room : {version kind coding : ℕ} {m : List ℕ} → Opens version kind coding (drop 6 m) m → 7 ≤ length m
opens_room {version} {kind} {coding} {m} o =
    let l : length (drop 6 m) ≡ suc (length o.rest) = ap length o.parts in
    omega (arith, length-drop 6 m)
