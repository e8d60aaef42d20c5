-- What functions that change a table, or put a text, promise: the bytes at exit, for every table that the bytes at entry are.
use Rattle.std.specs.Prelude.{ℕ, ◌+◌, ◌*◌, ◌≤◌, ◌≡◌, List, ◌++◌, length}
use Rattle.std.proofs.Math.Option.{Option, some}
use Rattle.writing.specs.Settings.{Text}
use Rattle.read_fields.specs.TextsAndNumbers.{TextIs}
use Rattle.read_fields.specs.declared.texts.TextPlace.{TextPlace}
use Rattle.tables.specs.Layout.{text_bytes}

-- whatever table the bytes s are, the change has room for it, and makes it the table that the bytes t are
abbrev pub Changed : {T : Type 0} → (T → List ℕ → Type 0) → (T → Option T) → List ℕ → List ℕ → Type 0
Changed {T} Is change s t = (was : T) → Is was s → (u : T) × (change was ≡ some u) × Is u t

-- room for n units becomes the text's units, and zeros after them
abbrev pub TextPut : List ℕ → TextPlace → List ℕ → List ℕ → Type 0
TextPut m p s t = (n : ℕ) (us : Text) (next : ℕ) → TextIs m p us next → length us ≤ n → length s ≡ 2 * n → t ≡ text_bytes n us

-- a slot of a head and room for n units becomes the head and the text's bytes
abbrev pub SlotFilled : List ℕ → TextPlace → List ℕ → List ℕ → List ℕ → Type 0
SlotFilled m p head s t =
    (n : ℕ) (us : Text) (next : ℕ) → TextIs m p us next → length us ≤ n → length s ≡ length head + 2 * n → t ≡ head ++ text_bytes n us
