-- What a step that gave something was made of.
use Rattle.std.proofs.Common.{◌≡◌, Bool, true, false, cond, Option, Some, None, Ok, Err, refl, ap}
use Rattle.std.specs.Option.{ok_or}
use Rattle.site_records.specs.declared.faults.RowFault.TheVariants.{NotARow}
use Rattle.site_records.specs.inner.Reading.{Read, ◌>>=◌, unless_not}

-- A value that a step gives, and that it is no row.
abbrev pub given : {A : Type 0} → A → Read A
given x = Ok x

abbrev pub refused : {A : Type 0} → Read A
refused = Err NotARow

pub ok_same : {A : Type 0} (x y : A) → given x ≡ given y → x ≡ y
ok_same x y e = cc

-- A test that must hold.
pub if-ok : {A : Type 0} (t : Bool) (x y : A) → cond t (given x) refused ≡ Ok y → (t ≡ true) × (x ≡ y)
if-ok true x y e = (refl, ok_same x y e)
if-ok false x y e = absurd (cc e)

pub if-err : {A : Type 0} (t : Bool) (x : A) → (t ≡ true → ⊥) → cond t (given x) refused ≡ refused
if-err true x never = absurd (never refl)
if-err false x never = refl

pub bind-ok : {A B : Type 0} (r : Read A) (f : A → Read B) (y : B) → (r >>= f) ≡ Ok y → (x : A) × (r ≡ Ok x) × (f x ≡ Ok y)
bind-ok (Ok x) f y e = (x, refl, e)
bind-ok (Err e) f y h = absurd (cc h)

pub unless_not-ok : (t : Bool) (u : Unit {0}) → unless_not t ≡ Ok u → t ≡ true
unless_not-ok true u e = refl
unless_not-ok false u e = absurd (cc e)

pub ok_or-ok : {A : Type 0} (o : Option A) (x : A) → ok_or o NotARow ≡ Ok x → o ≡ Some x
ok_or-ok (Some y) x e = ap Some (ok_same y x e)
ok_or-ok None x e = absurd (cc e)
