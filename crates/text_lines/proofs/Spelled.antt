-- Names and levels are spelled as words.
use Rattle.std.proofs.Common.{◌≡◌, ℕ, Bool, true, false, cond, List, [], ◌∷◌, length, Option, Some, refl, arith, nat_lt, subst}
use Rattle.std.specs.List.{list_all, find}
use Rattle.std.specs.Str.{bytes_eq}
use Rattle.std.proofs.lemmas.Bool.{false≢true}
use Rattle.std.proofs.lemmas.Bool.Decides.{nat_tests}
use Rattle.std.proofs.lemmas.Slice.Eq.{bytes_eq-Decides}
use Rattle.trust_types.specs.declared.levels.Level.{Level}
use Rattle.trust_types.specs.declared.levels.Level.TheVariants.{Observer, Apprentice, Journeyer, Master, Fellow, Warden, Elder}
use Rattle.trust_types.specs.Levels.{level_name, level_of, levels}
use Rattle.trust_types.specs.Names.{is_name, is_name_byte}
use Rattle.text_lines.specs.Words.{is_word, is_graphic}
use Rattle.text_lines.proofs.Joining.{both, and_true}

graphic : (b : ℕ) → is_name_byte b ≡ true → is_graphic b ≡ true
graphic b e = grind (arith, nat_tests)

all_graphic : (word : List ℕ) → list_all is_name_byte word ≡ true → list_all is_graphic word ≡ true
all_graphic [] e = refl
all_graphic (b ∷ bs) e =
    let h = both (is_name_byte b) (list_all is_name_byte bs) e in
    and_true (is_graphic b) (list_all is_graphic bs) (graphic b h.0) (all_graphic bs h.1)

pub is_word-name : (word : List ℕ) → is_name word ≡ true → is_word word ≡ true
is_word-name [] e = absurd (false≢true e)
is_word-name (b ∷ bs) e =
    let some : nat_lt 0 (length (b ∷ bs)) ≡ true = grind (arith, nat_tests) in
    let each : list_all is_name_byte (b ∷ bs) ≡ true = grind arith in
    and_true _ (list_all is_graphic (b ∷ bs)) some (all_graphic (b ∷ bs) each)

pub is_word-level : (level : Level) → is_word (level_name level) ≡ true
is_word-level Observer = refl
is_word-level Apprentice = refl
is_word-level Journeyer = refl
is_word-level Master = refl
is_word-level Fellow = refl
is_word-level Warden = refl
is_word-level Elder = refl

passes_by : {X : Type 0} (p : X → Bool) (y : X) (found : Option X) (x : X) (b : Bool) → p y ≡ b → cond b (Some y) found ≡ Some x → (found ≡ Some x → p x ≡ true) → p x ≡ true
passes_by p y found x true e is further = let same : y ≡ x = cc in subst (λ z. p z ≡ true) same e
passes_by p y found x false e is further = further is

-- what a search finds passes its test
passes : {X : Type 0} (p : X → Bool) (xs : List X) (x : X) → find p xs ≡ Some x → p x ≡ true
passes p [] x e = cc
passes p (y ∷ ys) x e = passes_by p y (find p ys) x (p y) refl e (passes p ys x)

pub is_word-level_of : (word : List ℕ) (level : Level) → level_of word ≡ Some level → is_word word ≡ true
is_word-level_of word level e =
    let same : level_name level ≡ word = (bytes_eq-Decides (level_name level) word).0 (passes (λ l. bytes_eq (level_name l) word) levels level e) in
    subst (λ w. is_word w ≡ true) same (is_word-level level)
