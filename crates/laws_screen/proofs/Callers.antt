-- Callers and the screen: a caller has a row exactly if a line was last sent with its IDtype and digits, and the name shown is that line's. Assumes nothing.
use Rattle.lists.proofs.Kit.{ℕ, ◌≤◌, ◌≡◌, refl, sym, ap, ◌∙◌, subst, ◌≢◌, ◌↔◌, inl, inr, List, [], ◌∷◌, map, cons≢nil, Option, none, some, option_none_ne_some, length, get_or}
use denote.Ref.{Bor}
use Rattle.lists.specs.Ladder.{Answers}
use Rattle.writing.specs.Ranges.{InNumber}
use Rattle.writing.specs.Settings.{Text, Number, Setting}
use Rattle.writing.specs.Writing.{bit}
use Rattle.tables.specs.declared.limits.Limits.{Limits}
use Rattle.tables.specs.Apply.{has_key}
use Rattle.tables.specs.Forms.{Roomy}
use Rattle.tables.specs.Store.{Holds}
use Rattle.tables.specs.Tables.{Line, LineKey, line_key, Tables, fresh}
use Rattle.tables.proofs.EntryCodes.{bit_one}
use Rattle.shared_texts.proofs.Forms.{holds_store}
use Rattle.tables.proofs.Sentences.{key_is_both}
use Rattle.screen.specs.declared.rows.Row.TheVariants.{Line as LineRow}
use Rattle.screen.specs.Rows.{Caption, line, line_row, of, ascii, units, unit_bytes}
use Rattle.screen.specs.Screen.{RowBytes, PartGiven}
use Rattle.screen.proofs.AnswerLaws.{one_tables}
use Rattle.callers.specs.Callers.{Told, Calls, ByNumber, looking_up}
use Rattle.callers.proofs.Theorems.{caller_found}
use Rattle.laws_screen.specs.ByKey.{found, to_line}
use Rattle.laws_screen.specs.Reached.{Reached, InOrder, all_of, LastSent}
use Rattle.laws_screen.proofs.Joins.{reached_tables, whole_part, named_bytes, row_name}
use Rattle.laws_screen.proofs.KeyLaws.{found_there, found_place, found_has}
use Rattle.laws_screen.proofs.LineSent.{line_sees}
use Rattle.laws_screen.proofs.Sent.{sent_exactly}

-- ---- what the screen shows in a caller's row

-- a row that is answered is that of a line of these tables with the caller's IDtype and digits
row_line : (lim : Limits) (t : Tables) (store : List ℕ) → Holds lim t store → (idtype : ℕ) (digits : Number) (a : Told) → Answers (looking_up lim idtype digits store) a → (n : ℕ) → a.row ≡ some n
    → (l : Line) × (get_or (map some t.lines) n none ≡ some l) × Calls idtype digits l
row_line lim t store h idtype digits a (inl (_, e)) n r = absurd (option_none_ne_some n (sym (ap (λ (y : Told). y.row) e) ∙ r))
row_line lim t store h idtype digits a (inr (_, inl (_, e))) n r = absurd (option_none_ne_some n (sym (ap (λ (y : Told). y.row) e) ∙ r))
row_line lim t store h idtype digits a (inr (_, inr (_, (u, k, _, p)))) n r =
    subst (λ (v : Tables). ByNumber v idtype digits (some n)) (one_tables lim store u t k h) (subst (ByNumber u idtype digits) r p)

-- bytes that show a line with an empty text are those of its digits
digit_bytes_shown : (us : Text) (ds : Number) (bytes : List ℕ) → us ≡ [] → RowBytes (some (line us ds)) bytes → bytes ≡ unit_bytes (map ascii ds)
digit_bytes_shown [] ds bytes n (d, (ns, p, e), is) = is ∙ ap unit_bytes (ap units e ∙ p)
digit_bytes_shown (u ∷ us) ds bytes n s = absurd (cons≢nil n)

-- CALLER SHOWN: the row of a caller, of any tables, is that of a line with its IDtype and digits, and its part shows that line's name, or the digits where it has none
pub caller_shown : (lim : Limits) (t : Tables) (store scratch : Bor (List ℕ)) → Roomy lim → Holds lim t store.now → 36 ≤ length scratch.now
    → (idtype : ℕ) (digits : Number) (a : Told) → Answers (looking_up lim idtype digits store.now) a → (n : ℕ) → a.row ≡ some n → (r : Bor (List ℕ)) → PartGiven lim store scratch (LineRow n) r
    → (l : Line) × Calls idtype digits l × (get_or (map some t.lines) n none ≡ some l) × (l.text ≢ [] → r.now ≡ unit_bytes l.text) × (l.text ≡ [] → r.now ≡ unit_bytes (map ascii digits))
caller_shown lim t store scratch roomy h big idtype digits a x n e r p =
    let (l, is, calls) = row_line lim t store.now h idtype digits a x n e in
    let shown = subst (λ (c : Option Caption). RowBytes c r.now) (ap (of line_row) is) (whole_part lim store scratch (LineRow n) r t (holds_store lim t store.now roomy h) h big p) in
    (l, calls, is, λ full. named_bytes (line_row l) r.now full shown, λ empty. digit_bytes_shown l.text l.number r.now empty shown ∙ ap (λ ds. unit_bytes (map ascii ds)) calls.1)

-- ---- after any messages

module _ (lim : Limits) (log : List (List Setting)) (t : Tables) (o : InOrder lim fresh log t) where
  -- LINE SENT: a line is held under an IDtype and digits exactly if the last setting for them sent it
  pub line_sent : (k : LineKey) (x : Line) → (found (has_key k) t.lines ≡ some x) ↔ LastSent (to_line k) (all_of log) x
  line_sent k = sent_exactly (λ u. found (has_key k) u.lines) (λ u. Unit {0}) (to_line k) (line_sees k) lim log t o tt refl

module _ (lim : Limits) (log : List (List Setting)) (store : List ℕ) (x : Reached lim log store) (t : Tables) (o : InOrder lim fresh log t) where
  -- what stands at a position is found under its key
  held : (n : ℕ) (l : Line) → get_or (map some t.lines) n none ≡ some l → found (has_key (line_key l)) t.lines ≡ some l
  held n l e = found_there line_key (has_key (line_key l)) l (key_is_both (line_key l)) t.lines (reached_tables lim log store x t o).1.0.distinct n e

  -- LINE HELD: the line at a position is the one that was last sent with its IDtype and digits
  pub line_held : (n : ℕ) (l : Line) → get_or (map some t.lines) n none ≡ some l → LastSent (to_line (line_key l)) (all_of log) l
  line_held n l e = (line_sent lim log t o (line_key l) l).0 (held n l e)

  module _ (k : LineKey) (a : Told) (y : Answers (looking_up lim (bit k.pabx) k.number store) a) where
    -- the line of a caller's row is found under the caller's key
    row_held : (n : ℕ) → a.row ≡ some n → (l : Line) × (get_or (map some t.lines) n none ≡ some l) × (found (has_key k) t.lines ≡ some l)
    row_held n e =
        let (l, is, (b, d)) = row_line lim t store (reached_tables lim log store x t o).1 (bit k.pabx) k.number a y n e in
        let q : l.flags.pabx ≡ k.pabx = bit_one l.flags.pabx k.pabx b in
        let same : line_key l ≡ k = (λ i. record { pabx = q i; number = d i }) in
        (l, is, subst (λ (j : LineKey). found (has_key j) t.lines ≡ some l) same (held n l is))

    -- CALLER LINE: the row of a caller is that of the line last sent with its IDtype and digits
    pub caller_line : (n : ℕ) → a.row ≡ some n → (z : Line) → LastSent (to_line k) (all_of log) z → get_or (map some t.lines) n none ≡ some z
    caller_line n e z s = let (l, is, f) = row_held n e in is ∙ sym f ∙ (line_sent lim log t o k z).1 s

    module _ (d : InNumber k.number) where
      -- CALLER KNOWN: a caller has a row exactly if a line was sent with its IDtype and digits and not deleted or cleared since
      pub caller_known : ((n : ℕ) × (a.row ≡ some n)) ↔ ((z : Line) × LastSent (to_line k) (all_of log) z)
      caller_known = (
        λ (n, e). let (l, is, f) = row_held n e in (l, (line_sent lim log t o k l).0 f),
        λ (z, s).
            let (b, h) = reached_tables lim log store x t o in
            let f = (line_sent lim log t o k z).1 s in
            let (i, is) = found_place (has_key k) z t.lines f in
            let same : line_key z ≡ k = (key_is_both k z).0 (found_has (has_key k) z t.lines f) in
            (i, (caller_found lim (bit k.pabx) k.number store t b.roomy h d a y i).1 (z, is, (ap (λ (j : LineKey). bit j.pabx) same, ap (λ (j : LineKey). j.number) same))),
      )

      -- CALLER UNKNOWN: and no row has its number exactly if none was
      pub caller_unknown : (a.row ≡ none) ↔ ((z : Line) → LastSent (to_line k) (all_of log) z → ⊥)
      caller_unknown = (λ e z s. let (n, i) = caller_known.1 (z, s) in option_none_ne_some n (sym e ∙ i), λ never. by never a.row refl)
        where
          by : ((z : Line) → LastSent (to_line k) (all_of log) z → ⊥) → (r : Option ℕ) → a.row ≡ r → a.row ≡ none
          by never none e = e
          by never (some n) e = let (z, s) = caller_known.0 (n, e) in absurd (never z s)

-- CALLER NAME: the name shown for a caller is the one last sent with its IDtype and digits
pub caller_name : (lim : Limits) (log : List (List Setting)) (store scratch : Bor (List ℕ)) (t : Tables) → Reached lim log store.now → InOrder lim fresh log t → 36 ≤ length scratch.now
    → (k : LineKey) (a : Told) → Answers (looking_up lim (bit k.pabx) k.number store.now) a → (n : ℕ) → a.row ≡ some n → (z : Line) → LastSent (to_line k) (all_of log) z → z.text ≢ []
    → (r : Bor (List ℕ)) → PartGiven lim store scratch (LineRow n) r → r.now ≡ unit_bytes z.text
caller_name lim log store scratch t x o big k a y n e z s full r p =
    row_name lim log store scratch (LineRow n) r t x o big p (line_row z) (ap (of line_row) (caller_line lim log store.now x t o k a y n e z s)) full
