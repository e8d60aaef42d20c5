-- Every row of every table with no table: what is read from the events stands there. Assumes nothing.
use Rattle.lists.proofs.Kit.{ℕ, ◌≤◌, ◌≡◌, refl, sym, ap, ◌∙◌, Bool, true, false, cond, List, map, Option, none, some, option_some_injective, arith, eqb, ltb, ltb-true, ltb-false, length, get_or, replicate, length-replicate, list_getD_eq_default}
use Rattle.writing.specs.declared.Kind.{Kind}
use Rattle.writing.specs.declared.Kind.TheVariants.{GroupContacts, IndividualContacts, Lines, Key, QuickTexts, Home, Channels, System, StatusTexts, Group, Individual, LineSlot, Last}
use Rattle.tables.specs.declared.limits.Limits.{Limits}
use Rattle.tables.specs.declared.members.Members.TheVariants.{OfGroups, OfIndividuals}
use Rattle.tables.specs.Apply.{in_turn, same_key}
use Rattle.tables.specs.Limits.{quick_places, status_places, slot_places, contact_places}
use Rattle.tables.specs.MemberKinds.{contact_key}
use Rattle.tables.specs.Owns.{Own, own}
use Rattle.tables.specs.Tables.{line_key, Tables, fresh}
use Rattle.events.specs.Reading.{reading}
use Rattle.events.specs.Events.{Event, Rising}
use Rattle.events.specs.Places.{place_step, places_after, spot}
use Rattle.events.specs.Settings.{quick_place, quick_change, status_place, status_change, slot_place, slot_change, latest, Does, run}
use Rattle.events.specs.Logs.{History, Tells}
use Rattle.events.specs.Rows.{in_row, placed_row, read_row}
use Rattle.events.proofs.ReadingLaws.{always_room}
use Rattle.events.proofs.PlaceLaws.{places_many, spot_is}
use Rattle.events.proofs.ChannelLaws.{channels_living}
use Rattle.events.proofs.RowLaws.{row_is}
use Rattle.events.proofs.SettingLaws.{nat_decides, key_decides}

-- what always has room comes to what is read
room_told : {E S : Type 0} (f : E → S → S) (es : List E) (s t : S) → in_turn (λ e u. some (f e u)) es s ≡ some t → t ≡ reading f es s
room_told f es s t h = sym (option_some_injective (reading f es s) t (sym (always_room f es s) ∙ h))

-- a place
placed_told : {A B : Type 0} (place : A → ℕ) (change : Option B → A → Option B) (n : ℕ) (es : List (Event A ℕ)) (x : List (Option B)) (i : ℕ)
    → in_turn (λ v t. some (place_step place change n v t)) es (replicate n none) ≡ some x → get_or x i none ≡ placed_row place change n es i
placed_told {B = B} place change n es x i h = ap (λ (os : List (Option B)). get_or os i none) (room_told (place_step place change n) es (replicate n none) x h) ∙ go (ltb i n) refl
  where
    long : length (places_after place change n es (replicate n none)) ≡ n
    long = places_many place change n es (replicate n none) (length-replicate n none)

    go : (b : Bool) → ltb i n ≡ b → get_or (places_after place change n es (replicate n none)) i none ≡ cond b (spot place change i es) none
    go true t = spot_is place change n i es (ltb-true i n t)
    go false t = list_getD_eq_default (places_after place change n es (replicate n none)) none (let q : n ≤ i = ltb-false i n t in omega (arith, long))

-- ROW-TOLD: row i of the table that events leave is what is read from them
pub row_told : (lim : Limits) (k : Kind) (es : List (Does k)) (x : Own k) (i : ℕ) → Rising 0 es → in_turn (run lim k) es (own k fresh) ≡ some x → in_row k x i ≡ read_row k es i
row_told lim GroupContacts es x i r h = row_is (contact_key OfGroups) eqb nat_decides contact_places es x i r h
row_told lim IndividualContacts es x i r h = row_is (contact_key OfIndividuals) eqb nat_decides contact_places es x i r h
row_told lim Lines es x i r h = row_is line_key same_key key_decides lim.lines es x i r h
row_told lim Key es x i r h = ap some (room_told latest es fresh.key x h)
row_told lim QuickTexts es x i r h = placed_told quick_place quick_change quick_places es x i h
row_told lim Home es x i r h = ap some (room_told latest es fresh.home x h)
row_told lim Channels es x i r h = ap (λ (cs : List ℕ). get_or (map some cs) i none) (channels_living lim.channels es (own Channels fresh) x h)
row_told lim System es x i r h = ap some (room_told latest es fresh.system x h)
row_told lim StatusTexts es x i r h = placed_told status_place status_change status_places es x i h
row_told lim Group es x i r h = placed_told slot_place slot_change slot_places es x i h
row_told lim Individual es x i r h = placed_told slot_place slot_change slot_places es x i h
row_told lim LineSlot es x i r h = placed_told slot_place slot_change slot_places es x i h
row_told lim Last es x i r h = ap some (room_told latest es fresh.hash x h)

-- ROWS-TOLD: and so in every table that events tell
pub rows_told : (lim : Limits) (es : History) (t : Tables) → Tells lim es t → ((k : Kind) → Rising 0 (es k)) → (k : Kind) (i : ℕ) → in_row k (own k t) i ≡ read_row k (es k) i
rows_told lim es t h r k i = row_told lim k (es k) (own k t) i (r k) (h k)
