-- Steps of which the first that fails gives the fault: what each gives where all of them pass, and what a draft's line says
-- where one fails.
use Rattle.std.proofs.Common.{◌≡◌, ℕ, Bool, true, false, List, [], ◌∷◌, Option, Some, None, Result, Ok, Err, refl, ap, sym, subst}
use Rattle.std.specs.Option.{ok_or, IfSome}
use Rattle.std.specs.Result.{IsErrAnd}
use Rattle.trust_types.specs.declared.levels.Level.{Level}
use Rattle.trust_types.specs.Levels.{level_of}
use Rattle.trust_types.specs.Names.{is_name}
use Rattle.trust_types.specs.Tables.{Table, has_level}
use Rattle.text_lines.specs.declared.faults.TextKind.{TextKind}
use Rattle.text_lines.specs.declared.faults.TextKind.TheVariants.{BadLevel, BadName}
use Rattle.text_lines.specs.declared.faults.TextFault.{TextFault}
use Rattle.text_lines.specs.declared.faults.LineFault.{LineFault}
use Rattle.text_lines.specs.declared.faults.LineFault.TheVariants.{Kind}
use Rattle.text_lines.specs.Reading.{Reads, ReadsAll}
use Rattle.text_lines.specs.Steps.{◌>>=◌, fault_if, fault_unless, at_line}
use Rattle.text_lines.specs.Places.{one_word, three_words, name_in, level_in}

pub bind-ok : {A B E : Type 0} (step : Result A E) (further : A → Result B E) (y : B) → (step >>= further) ≡ Ok y → (x : A) × (step ≡ Ok x) × (further x ≡ Ok y)
bind-ok (Ok x) further y e = (x, refl, e)
bind-ok (Err d) further y e = cc

pub ok_or-ok : {A : Type 0} (o : Option A) (kind : TextKind) (x : A) → ok_or o kind ≡ Ok x → o ≡ Some x
ok_or-ok (Some y) kind x e = cc
ok_or-ok None kind x e = cc

pub fault_if-ok : (test : Bool) (kind : TextKind) (u : Unit {0}) → fault_if test kind ≡ Ok u → test ≡ false
fault_if-ok true kind u e = cc
fault_if-ok false kind u e = refl

pub fault_unless-ok : (test : Bool) (kind : TextKind) (u : Unit {0}) → fault_unless test kind ≡ Ok u → test ≡ true
fault_unless-ok true kind u e = refl
fault_unless-ok false kind u e = cc

pub at_line-ok : {A : Type 0} (number : ℕ) (step : Result A TextKind) (x : A) → at_line number step ≡ Ok x → step ≡ Ok x
at_line-ok number (Ok y) x e = let same : y ≡ x = cc in ap Ok same
at_line-ok number (Err kind) x e = cc

pub one_word-ok : (words : List (List ℕ)) (word : List ℕ) → one_word words ≡ Ok word → words ≡ word ∷ []
one_word-ok [] word e = cc
one_word-ok (w ∷ []) word e = cc
one_word-ok (w ∷ v ∷ ws) word e = cc

pub three_words-ok : (words : List (List ℕ)) (three : List ℕ × List ℕ × List ℕ) → three_words words ≡ Ok three → words ≡ three.0 ∷ three.1 ∷ three.2 ∷ []
three_words-ok [] three e = cc
three_words-ok (a ∷ []) three e = cc
three_words-ok (a ∷ b ∷ []) three e = cc
three_words-ok (a ∷ b ∷ c ∷ []) three e = cc
three_words-ok (a ∷ b ∷ c ∷ d ∷ ws) three e = cc

name_by : (is : Bool) (word name : List ℕ) → is_name word ≡ is → name_in word ≡ Ok name → (name ≡ word) × (is_name word ≡ true)
name_by true word name named e = let same : name_in word ≡ Ok word = rw named refl in (cc, named)
name_by false word name named e = let none : name_in word ≡ Err BadName = rw named refl in cc

pub name_in-ok : (word name : List ℕ) → name_in word ≡ Ok name → (name ≡ word) × (is_name word ≡ true)
name_in-ok word name e = name_by (is_name word) word name refl e

-- A level that stands in a level's place is what the word spells, and one of the table's.
pub level_in-ok : (table : Table) (word : List ℕ) (level : Level) → level_in table word ≡ Ok level → (level_of word ≡ Some level) × (has_level table level ≡ true)
level_in-ok table word level e =
    let spelled = bind-ok (ok_or (level_of word) BadLevel) _ level e in
    let has = bind-ok (fault_unless (has_level table spelled.0) BadLevel) _ level spelled.2 in
    let is : ◌≡◌ {A = Result Level TextKind} (Ok spelled.0) (Ok level) = has.2 in
    let same : spelled.0 ≡ level = cc in
    subst (λ l. (level_of word ≡ Some l) × (has_level table l ≡ true)) same (ok_or-ok _ BadLevel spelled.0 spelled.1, fault_unless-ok _ BadLevel has.0 has.1)

-- The fault of a line.
pub faulty : {S D : Type 0} (Is : D → S → Type 0) (new : D) (result : Result (Unit {0}) LineFault) (said : Result S TextKind) (kind : TextKind) →
    IsErrAnd result (λ fault. fault ≡ Kind kind) → said ≡ Err kind → Reads Is result new said
faulty Is new (Ok u) said kind fault e = absurd fault
faulty Is new (Err other) said kind fault e = rw fault e

-- A step that fails is the fault of the line, and one that passes leaves it to the further ones.
pub refused : {S D X : Type 0} (Is : D → S → Type 0) (new : D) (result : Result (Unit {0}) LineFault) (step : Result X TextKind) (further : X → Result S TextKind) (kind : TextKind) →
    IsErrAnd result (λ fault. fault ≡ Kind kind) → step ≡ Err kind → Reads Is result new (step >>= further)
refused Is new result step further kind fault e = faulty Is new result (step >>= further) kind fault (ap (λ r. r >>= further) e)

pub passed : {S D X : Type 0} (Is : D → S → Type 0) (new : D) (result : Result (Unit {0}) LineFault) (step : Result X TextKind) (further : X → Result S TextKind) (x : X) →
    step ≡ Ok x → Reads Is result new (further x) → Reads Is result new (step >>= further)
passed Is new result step further x e rest = subst (λ r. Reads Is result new (r >>= further)) (sym e) rest

further_by : {S T : Type 0} (part : Result S TextFault) (further : S → Result T TextFault) (fault : Option TextFault) → IfSome fault (λ f. part ≡ Err f) → IfSome fault (λ f. (part >>= further) ≡ Err f)
further_by part further None e = tt
further_by part further (Some f) e = ap (λ r. r >>= further) e

-- The same of a text: a part that fails is the fault of the whole, and one that passes leaves it to the further ones.
pub refused_text : {S T F E : Type 0} (Is : F → T → Type 0) (fault_of : E → Option TextFault) (result : Result F E) (part : Result S TextFault) (further : S → Result T TextFault) (refusal : E) →
    IsErrAnd result (λ e. e ≡ refusal) → IfSome (fault_of refusal) (λ f. part ≡ Err f) → ReadsAll Is fault_of result (part >>= further)
refused_text Is fault_of (Ok x) part further refusal is e = absurd is
refused_text Is fault_of (Err other) part further refusal is e = subst (λ r. IfSome (fault_of r) (λ f. (part >>= further) ≡ Err f)) (sym is) (further_by part further (fault_of refusal) e)

pub passed_text : {S T F E : Type 0} (Is : F → T → Type 0) (fault_of : E → Option TextFault) (result : Result F E) (part : Result S TextFault) (further : S → Result T TextFault) (x : S) →
    part ≡ Ok x → ReadsAll Is fault_of result (further x) → ReadsAll Is fault_of result (part >>= further)
passed_text Is fault_of result part further x e rest = subst (λ r. ReadsAll Is fault_of result (r >>= further)) (sym e) rest
