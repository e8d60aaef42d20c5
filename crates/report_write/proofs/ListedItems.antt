-- The parameters of tables with many entries are written from the entries' slots. Assumes nothing.
use Rattle.lists.proofs.Kit.{ℕ, ◌+◌, ◌*◌, ◌/◌, ◌%◌, ◌≤◌, ◌<◌, ◌≡◌, refl, sym, ap, ◌∙◌, subst⁻¹, List, [], ◌∷◌, ◌++◌, arith, mid_len, mid_of, length, get_or, take, take_all, drop_at}
use Rattle.lists.specs.Every.{All}
use Rattle.slots.specs.Slots.{u24}
use Rattle.writing.specs.Canonical.{side_by_side, bytes, plain, FitsField}
use Rattle.writing.specs.Fields.{Field, val, res, widths}
use Rattle.writing.specs.Ranges.{InChannel}
use Rattle.writing.specs.Settings.{Text, unicode16}
use Rattle.writing.specs.Writing.{bit, flag, number, text}
use Rattle.writing.proofs.CanonicalLaws.{plain_append}
use Rattle.writing.proofs.Whole.{append_whole, number_whole, text_whole}
use Rattle.tables.specs.Allowed.{GroupOk, IndividualOk, LineOk, QuickOk, StatusOk}
use Rattle.tables.specs.Layout.{text_bytes, digit_bytes, group_flags, individual_flags, line_flags, group_bytes, individual_bytes, line_bytes}
use Rattle.tables.specs.Tables.{GroupMember, IndividualMember, Line}
use Rattle.tables.proofs.EntryCodes.{bit_small, digits_stand}
use Rattle.tables.proofs.TextCodes.{text_length, digits_length}
use Rattle.export_write.specs.Writers.{Wrote, WritesText, WritesNumber}
use Rattle.export_write.proofs.PlainLaws.{plain_some}
use Rattle.export_write.proofs.TextWriting.{text_fits}
use Rattle.export_write.proofs.WroteLaws.{wrote_as, wrote_both, wrote_length}
use Rattle.reports.specs.declared.Asked.TheVariants.{Groups, Individuals, Lines, QuickTexts, Channels, StatusTexts}
use Rattle.reports.specs.Items.{group, individual, line, quick, channel, status, good, item_bytes}
use Rattle.reports.proofs.Sizes.{item_fits}
use Rattle.report_write.specs.ItemWriters.{WritesEntry, WritesHeaded, item_most}
use Rattle.report_write.proofs.HeadLaws.{headed_plain, three_plain, bits_plain, bytes_writes, text_writes, short_writes}

-- ---- group and individual contacts

-- behind the address stand n bytes of fields
addressed_plain : (type a n : ℕ) (fs : List Field) (us : Text) (head : List ℕ) → type < 256 → a < 16777216 → widths fs ≡ 8 * n → bytes n (side_by_side fs) ≡ head
    → All FitsField (val 24 a ∷ fs ++ text unicode16 us) → All FitsField (text unicode16 us)
    → (type ∷ 0 ∷ u24 a ++ head) ++ plain (text unicode16 us) ≡ plain (val 8 type ∷ good (val 24 a ∷ fs ++ text unicode16 us))
addressed_plain type a n fs us head l m w e f g =
    let T : List Field = text unicode16 us in
    sym (headed_plain type 3 (val 24 a ∷ []) (fs ++ T) (u24 a) l refl (three_plain a (val 24 a ∷ []) refl (omega arith) m) (append_whole fs T (n, w) (text_whole unicode16 us)) f f.1
    ∙ ap (λ (x : List ℕ). type ∷ 0 ∷ u24 a ++ x) (plain_some n fs T w (text_whole unicode16 us) g ∙ ap (λ (x : List ℕ). x ++ plain T) e))

-- the head of a group contact, of the bytes that keep it
abbrev pub group_head : List ℕ → ℕ → List ℕ
group_head s p = 0x88 ∷ 0 ∷ get_or s 1 0 ∷ get_or s 2 0 ∷ get_or s 3 0 ∷ (p * 16 + get_or s 0 0 / 16) ∷ (get_or s 0 0 % 16 * 16) ∷ []

group_plain : (p : ℕ) (g : GroupMember) → p < 16 → GroupOk g → group_head (group_bytes g) p ++ plain (text unicode16 g.text) ≡ item_bytes (group p g)
group_plain p g low ok =
    let f = g.flags in
    let b1 = bit_small f.broadcast in
    let b2 = bit_small f.encryption in
    let b3 = bit_small f.ovcm in
    let b4 = bit_small f.emergency in
    let at : f.attribute < 4 = ok.attribute.1 in
    let pr : f.priority < 4 = ok.priority in
    let fs : List Field = val 4 p ∷ val 2 f.attribute ∷ flag f.broadcast ∷ flag f.encryption ∷ flag f.ovcm ∷ flag f.emergency ∷ val 2 f.priority ∷ res 4 ∷ [] in
    let v : ℕ = side_by_side fs in
    let F : ℕ = group_flags f in
    let x : v / 256 % 256 ≡ p * 16 + F / 16 = omega arith in
    let y : v / 1 % 256 ≡ F % 16 * 16 = omega arith in
    addressed_plain 0x88 g.address.0 2 fs g.text ((p * 16 + F / 16) ∷ (F % 16 * 16) ∷ []) (omega arith) ok.address.1 refl (λ i. x i ∷ y i ∷ [])
    (item_fits (group p g) (low, ok)).1.1.1 (text_fits g.text ok.text.units)

-- it is written from them
pub group_writes : (s before after : List ℕ) (rank r : ℕ) → length s ≡ 36 → WritesHeaded (group_head s (rank % 16)) (mid_of 4 32 s) before after r → WritesEntry Groups s 0 rank before after r
group_writes s before after rank r l w =
    short_writes Groups s 0 rank r before after 4 (λ g. g.text) (λ x. group_head x (rank % 16)) l (omega arith) (λ g ok. (ok.text, refl)) (λ g p ok. group_plain (rank % 16) g (omega arith) ok) w

-- the head of an individual contact
abbrev pub individual_head : List ℕ → ℕ → List ℕ
individual_head s p = 0x89 ∷ 0 ∷ get_or s 1 0 ∷ get_or s 2 0 ∷ get_or s 3 0 ∷ (p * 16 + get_or s 0 0 % 16) ∷ []

individual_plain : (p : ℕ) (x : IndividualMember) → p < 16 → IndividualOk x → individual_head (individual_bytes x) p ++ plain (text unicode16 x.text) ≡ item_bytes (individual p x)
individual_plain p x low ok =
    let f = x.flags in
    let b1 = bit_small f.encryption in
    let b2 = bit_small f.emergency in
    let pr : f.priority < 4 = ok.priority in
    let fs : List Field = val 4 p ∷ flag f.encryption ∷ flag f.emergency ∷ val 2 f.priority ∷ [] in
    let F : ℕ = individual_flags f in
    let y : side_by_side fs / 1 % 256 ≡ p * 16 + F % 16 = omega arith in
    addressed_plain 0x89 x.address.0 1 fs x.text ((p * 16 + F % 16) ∷ []) (omega arith) ok.address.1 refl (λ i. y i ∷ [])
    (item_fits (individual p x) (low, ok)).1.1.1 (text_fits x.text ok.text.units)

pub individual_writes : (s before after : List ℕ) (rank r : ℕ) → length s ≡ 36 → WritesHeaded (individual_head s (rank % 16)) (mid_of 4 32 s) before after r
    → WritesEntry Individuals s 0 rank before after r
individual_writes s before after rank r l w =
    short_writes Individuals s 0 rank r before after 4 (λ x. x.text) (λ x. individual_head x (rank % 16)) l (omega arith) (λ x ok. (ok.text, refl))
    (λ x p ok. individual_plain (rank % 16) x (omega arith) ok) w

-- ---- quick texts

quick_plain : (i : ℕ) (us : Text) → i < 64 → QuickOk us → (0x8C ∷ 0 ∷ (i * 4) ∷ []) ++ plain (text unicode16 us) ≡ item_bytes (quick i us)
quick_plain i us low ok =
    let y : side_by_side (val 6 i ∷ res 2 ∷ []) / 1 % 256 ≡ i * 4 = omega arith in
    sym (headed_plain 0x8C 1 (val 6 i ∷ res 2 ∷ []) (text unicode16 us) ((i * 4) ∷ []) (omega arith) refl (λ j. y j ∷ []) (text_whole unicode16 us)
    (item_fits (quick i us) (low, ok)).1.1.1 (text_fits us ok.text.units))

pub quick_writes : (s before after : List ℕ) (place r : ℕ) → length s ≡ 46 → WritesHeaded (0x8C ∷ 0 ∷ (place % 64 * 4) ∷ []) s before after r
    → WritesEntry QuickTexts s place 0 before after r
quick_writes s before after place r l w =
    text_writes QuickTexts s place 0 r before after (0x8C ∷ 0 ∷ (place % 64 * 4) ∷ []) s 23 (λ us. us) (omega arith) w
    (λ us k.
    let e : place % 64 ≡ place = omega (arith, k.0) in
    (k.1.text, k.2, ap (λ (i : ℕ). (0x8C ∷ 0 ∷ (i * 4) ∷ []) ++ plain (text unicode16 us)) e ∙ quick_plain place us k.0 k.1))

-- ---- status texts

status_plain : (c p : ℕ) (us : Text) → 32 ≤ c → c ≤ 127 → p < 256 → StatusOk us → (0x90 ∷ 0 ∷ c ∷ p ∷ []) ++ plain (text unicode16 us) ≡ item_bytes (status c p us)
status_plain c p us a b low ok =
    let v : ℕ = side_by_side (val 8 c ∷ val 8 p ∷ []) in
    let x : v / 256 % 256 ≡ c = omega arith in
    let y : v / 1 % 256 ≡ p = omega arith in
    sym (headed_plain 0x90 2 (val 8 c ∷ val 8 p ∷ []) (text unicode16 us) (c ∷ p ∷ []) (omega arith) refl (λ j. x j ∷ y j ∷ []) (text_whole unicode16 us)
    (item_fits (status c p us) (a, b, low, ok)).1.1.1 (text_fits us ok.units))

pub status_writes : (s before after : List ℕ) (place rank r : ℕ) → length s ≡ 33 → WritesHeaded (0x90 ∷ 0 ∷ (place % 96 + 32) ∷ (rank % 256) ∷ []) (mid_of 1 32 s) before after r
    → WritesEntry StatusTexts s place rank before after r
status_writes s before after place rank r l w =
    short_writes StatusTexts s place rank r before after 1 (λ us. us) (λ x. 0x90 ∷ 0 ∷ (place % 96 + 32) ∷ (rank % 256) ∷ []) l (omega arith) (λ us ok. (ok, refl))
    (λ us p ok.
    let e : place % 96 + 32 ≡ place + 32 = omega arith in
    ap (λ (c : ℕ). (0x90 ∷ 0 ∷ c ∷ (rank % 256) ∷ []) ++ plain (text unicode16 us)) e ∙ status_plain (place + 32) (rank % 256) us (omega arith) (omega arith) (omega arith) ok) w

-- ---- channels

channel_plain : (n p : ℕ) → p < 4096 → InChannel n → 0x8E ∷ 0 ∷ u24 (n * 4096 + p) ≡ item_bytes (channel n p)
channel_plain n p low ok =
    bits_plain 0x8E (n * 4096 + p) (val 12 n ∷ val 12 p ∷ []) (omega arith) refl (omega arith) (omega (arith, ok.1)) (item_fits (channel n p) (ok, low)).1.1.1

pub channel_writes : (s before after : List ℕ) (rank n r : ℕ) → n ≡ get_or s 0 0 * 256 + get_or s 1 0 → Wrote (0x8E ∷ 0 ∷ u24 (n % 4096 * 4096 + rank % 4096)) 0 before after r
    → WritesEntry Channels s 0 rank before after r
channel_writes s before after rank n r e w =
    bytes_writes Channels s 0 rank r before after (0x8E ∷ 0 ∷ u24 (n % 4096 * 4096 + rank % 4096)) (omega arith) w
    (λ m k.
    let d : get_or s 0 0 * 256 + get_or s 1 0 ≡ m / 256 * 256 + m % 256 = ap (λ (x : List ℕ). get_or x 0 0 * 256 + get_or x 1 0) k.2 in
    let f : n % 4096 ≡ m = omega (arith, k.1.1) in
    subst⁻¹ (λ (x : ℕ). 0x8E ∷ 0 ∷ u24 (x * 4096 + rank % 4096) ≡ item_bytes (channel m (rank % 4096))) f (channel_plain m (rank % 4096) (omega arith) k.1))

-- ---- line contacts

-- the head, of the bytes that keep a line
abbrev pub line_head : List ℕ → ℕ → List ℕ
line_head s p = 0x8A ∷ 0 ∷ (get_or s 1 0 % 2 * 128 + get_or s 0 0 % 16 * 8) ∷ p ∷ []

line_plain : (p : ℕ) (l : Line) → p < 16 → LineOk l → line_head (line_bytes l) p ++ (plain (number l.number) ++ plain (text unicode16 l.text)) ≡ item_bytes (line p l)
line_plain p l low ok =
    let f = l.flags in
    let b1 = bit_small f.encryption in
    let b2 = bit_small f.emergency in
    let b3 = bit_small f.pabx in
    let pr : f.priority < 4 = ok.priority in
    let N : List Field = number l.number in
    let T : List Field = text unicode16 l.text in
    let fs : List Field = flag f.pabx ∷ flag f.encryption ∷ flag f.emergency ∷ val 2 f.priority ∷ res 7 ∷ val 4 p ∷ [] in
    let v : ℕ = side_by_side fs in
    let F : ℕ = line_flags f in
    let x : v / 256 % 256 ≡ bit f.pabx % 2 * 128 + F % 16 * 8 = omega arith in
    let y : v / 1 % 256 ≡ p = omega arith in
    let fits = (item_fits (line p l) (low, ok)).1.1.1 in
    let (n, d) = number_whole l.number in
    let (m, c) = text_whole unicode16 l.text in
    sym (headed_plain 0x8A 2 fs (N ++ T) ((bit f.pabx % 2 * 128 + F % 16 * 8) ∷ p ∷ []) (omega arith) refl (λ i. x i ∷ y i ∷ []) (append_whole N T (n, d) (m, c)) fits fits.1.1.1.1.1.1
    ∙ ap (λ (z : List ℕ). line_head (line_bytes l) p ++ z) (plain_append N T n m d c (text_fits l.text ok.text.units)))

-- the head, the number and the text were written
line_wrote : (s before t u after : List ℕ) (rank m n r : ℕ) → Wrote (line_head s (rank % 16)) 0 before t m → WritesNumber (mid_of 2 18 s) m t u n → WritesText (mid_of 20 32 s) n u after r
    → (x : Line) → LineOk x → s ≡ line_bytes x → Wrote (item_bytes (line (rank % 16) x)) 0 before after r
line_wrote s before t u after rank m n r a b c x ok e =
    let N : List ℕ = plain (number x.number) in
    let T : List ℕ = plain (text unicode16 x.text) in
    let dg : mid_of 2 18 s ≡ digit_bytes x.number = ap (mid_of 2 18) e ∙ digits_stand x in
    let tx : mid_of 20 32 s ≡ text_bytes 16 x.text
    = ap (mid_of 20 32) e ∙ ap (take 32) (drop_at (digit_bytes x.number) (text_bytes 16 x.text) 18 (digits_length x.number))
    ∙ take_all 32 (text_bytes 16 x.text) (omega (arith, text_length 16 x.text)) in
    wrote_as (line_head s (rank % 16) ++ (N ++ T)) (item_bytes (line (rank % 16) x)) 0 r before after
    (ap (λ (y : List ℕ). line_head y (rank % 16) ++ (N ++ T)) e ∙ line_plain (rank % 16) x (omega arith) ok)
    (wrote_both (line_head s (rank % 16)) (N ++ T) 0 m r before t after a
    (wrote_both N T m n r t u after (b.wrote x.number (ok.number, dg)) (c.wrote x.text (16, (ok.text, tx)))))

pub line_writes : (s before t u after : List ℕ) (rank m n r : ℕ) → item_most ≤ length before → length s ≡ 52 → (4 ≤ length before → Wrote (line_head s (rank % 16)) 0 before t m)
    → ((length (mid_of 2 18 s) ≡ 18) × (m + 10 ≤ length t) → WritesNumber (mid_of 2 18 s) m t u n) → (n + length (mid_of 20 32 s) + 2 ≤ length u → WritesText (mid_of 20 32 s) n u after r)
    → length u ≡ length t → WritesEntry Lines s 0 rank before after r
line_writes s before t u after rank m n r room l f g h same =
    let i = mid_len 2 20 s (omega arith) in
    let j = mid_len 20 52 s (omega arith) in
    let a : Wrote (line_head s (rank % 16)) 0 before t m = f (omega arith) in
    let k = wrote_length (line_head s (rank % 16)) 0 m before t a in
    let b : WritesNumber (mid_of 2 18 s) m t u n = g (omega (arith, i), omega (arith, a.next, k)) in
    let c : WritesText (mid_of 20 32 s) n u after r = h (omega (arith, a.next, b.most, k, j)) in
    record {
      from = omega arith;
      most = omega (arith, a.next, b.most, c.most, j);
      wrote = λ x k. line_wrote s before t u after rank m n r a b c x k.1 k.2;
    }
