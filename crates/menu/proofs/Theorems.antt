-- What the menu may rely on: one answer, that of the tables, and what it says of room. Assumes nothing.
use Rattle.lists.proofs.Kit.{ℕ, ◌<◌, ◌≡◌, refl, sym, ap, ◌∙◌, ◌↔◌, Bool, true, false, cond, List, [], ◌∷◌, none, some, option_none_ne_some, get_or, length, inr, Option, arith, ltb-true}
use Rattle.lists.specs.Ladder.{Answers}
use Rattle.lists.proofs.Ladder.{one_answer}
use Rattle.lists.proofs.OneToOne.{decoded}
use Rattle.slots.specs.Slots.{index_of}
use Rattle.counted_lists.specs.Counted.{Without}
use Rattle.counted_lists.proofs.KeyedLists.{keyed_new, last_room, none_found}
use Rattle.tables.specs.declared.limits.Limits.{Limits}
use Rattle.tables.specs.Apply.{has_key, put_line, put_channel}
use Rattle.tables.specs.Forms.{Roomy}
use Rattle.tables.specs.Store.{Holds}
use Rattle.tables.specs.Tables.{Line, line_key, Tables}
use Rattle.shared_texts.proofs.Forms.{layout_one, holds_store}
use Rattle.tables.proofs.Sentences.{key_is_both}
use Rattle.menu.specs.declared.counting.Counts.{Counts}
use Rattle.std.specs.Prelude.{Some, None, Option as Option'}
use Rattle.menu.specs.Menu.{Told, told, counts_of, counting}

-- two tables of one store are the same
one_foot : (lim : Limits) (store : List ℕ) (a b : Told) → (t : Tables) × Holds lim t store × (a ≡ counts_of t) → (t : Tables) × Holds lim t store × (b ≡ counts_of t) → a ≡ b
one_foot lim store a b (t, h, e) (u, k, d) = e ∙ ap counts_of (layout_one lim t u h.0 k.0 (sym h.1 ∙ k.1)) ∙ sym d

-- one number with its counts
pub counts_one : (lim : Limits) (store : List ℕ) (a b : Told) → Answers (counting lim store) a → Answers (counting lim store) b → a ≡ b
counts_one lim store = one_answer (counting lim store) (one_foot lim store)

-- the number of an answer says which case it is
abbrev answer_of : Told → Option' Counts
answer_of a = get_or (Some (record { lines = a.lines; channels = a.channels }) ∷ []) a.number None

answer_back : (a : Option' Counts) → answer_of (told a) ≡ a
answer_back (Some c) = refl
answer_back None = refl

-- COUNTS-DETERMINED: the contract of the counts' call allows one answer of the code
pub counts_determined : (lim : Limits) (store : List ℕ) (a b : Option' Counts) → Answers (counting lim store) (told a) → Answers (counting lim store) (told b) → a ≡ b
counts_determined lim store a b x y = decoded told answer_of answer_back a b (counts_one lim store (told a) (told b) x y)

-- COUNTS-ARE: of a store of tables t it is 0 and the lengths of the two lists
pub counts_are : (lim : Limits) (store : List ℕ) (t : Tables) (a : Told) → Roomy lim → Holds lim t store → Answers (counting lim store) a → a ≡ counts_of t
counts_are lim store t a room h x = counts_one lim store a (counts_of t) x (inr (λ n. n (holds_store lim t store room h), (t, h, refl)))

-- ---- room

-- where there is room, something is there afterwards
abbrev pub HasRoom : {A : Type 0} → Option A → Type 0
HasRoom {A} o = (a : A) × (o ≡ some a)

-- a choice that has room was made
chosen : {A : Type 0} (b : Bool) (x : A) → HasRoom (cond b (some x) none) → b ≡ true
chosen true x h = refl
chosen false x h = absurd (option_none_ne_some h.0 h.1)

-- ROOM-EXACTLY: a line with a new key, or a channel, has a place exactly if the count is below the limit
pub room_exactly : (lim : Limits) (store : List ℕ) (t : Tables) (a : Told) → Roomy lim → Holds lim t store → Answers (counting lim store) a
    → ((l : Line) → Without line_key (line_key l) t.lines → HasRoom (put_line lim.lines l t.lines) ↔ (a.lines < lim.lines))
    × ((n : ℕ) → HasRoom (put_channel lim.channels n t.channels) ↔ (a.channels < lim.channels))
room_exactly lim store t a room h x =
    let e = counts_are lim store t a room h x in
    let l : a.lines ≡ length t.lines = ap (λ (y : Told). y.lines) e in
    let c : a.channels ≡ length t.channels = ap (λ (y : Told). y.channels) e in (
      λ b new.
          let i : index_of (has_key (line_key b)) t.lines ≡ length t.lines = (none_found line_key has_key key_is_both (line_key b) t.lines).1 new in (
            λ r. omega (arith, l, i, ltb-true (index_of (has_key (line_key b)) t.lines) lim.lines (chosen _ _ r)),
            λ k. (_, keyed_new line_key has_key key_is_both lim.lines b t.lines new (omega (arith, l, k))),
          ),
      λ n. (
        λ r. omega (arith, c, ltb-true (length t.channels) lim.channels (chosen _ _ r)),
        λ k. (_, last_room lim.channels n t.channels (omega (arith, c, k))),
      ),
    )
