-- The commands that words spell have parts that fit.
use Rattle.std.proofs.Common.{◌≡◌, ℕ, suc, ◌+◌, ◌-◌, ◌^◌, ◌≤◌, Bool, true, false, ◌&&◌, cond, List, [], ◌∷◌, ◌++◌, length, map, take, drop, All, Option, Some, None, refl, sym, ap, subst, ◌∙◌, arith, add-one, codes, leb, eqb}
use Rattle.std.specs.List.{list_any, list_all}
use Rattle.std.specs.Str.{bytes_eq}
use Rattle.std.specs.Option.{option_map, option_and_then}
use Rattle.std.proofs.lemmas.Bool.{leb-true}
use Rattle.std.proofs.lemmas.List.Elements.{All-cons, All-nil, All-map}
use Rattle.yr_base.specs.Words.{IsWord, is_word, reserved_words, name_limit}
use Rattle.yr_base.proofs.WordLemmas.{word_test}
use Rattle.yr_name_tables.specs.Names.{first_twice}
use Rattle.yr_rules.specs.Rules.{PlainExternal}
use Rattle.yr_rules.specs.Wellformed.{IsShortWord, AreDifferent, count_different}
use Rattle.yr_checks.specs.Resolving.{AreExternals}
use Rattle.yr_words.specs.Values.{Word, Halves, Given, cut_at, is_name, given_of, given_by, number_up_to, is_number}
use Rattle.yr_words.specs.Commands.{Flags, Source, Command, Scan, ScanImage, Compile, Check, Work}
use Rattle.yr_words.specs.Words.{each_of, source_in, source_of, sources_of, whole_source, split_of, Split, with_sources, scan_of, scan_image_of, compile_of, check_by, check_of, work_of, scan_by, plain_command, command_of, flags_of, places_of, has_letter, scan_flags, is_flag_of, scan_letters, last_givens, before_givens, size_limit}
use Rattle.std.specs.Str.Parse.{digits_value}
use Rattle.yr_outcome.specs.Front.{external_of}
use Rattle.yr_outcome.specs.Externals.{twice_given}
use Rattle.yr_commands.specs.Fitting.{FitSources, FitNames, Fits}

-- whatever comes, has the property
abbrev On : {A : Type 0} → (A → Type 0) → Option A → Type 0
On {A} P o = (x : A) → o ≡ Some x → P x

some-same : {A : Type 0} (x y : A) → Some x ≡ Some y → x ≡ y
some-same x y e = cc

on-none : {A : Type 0} (P : A → Type 0) → On P None
on-none P x e = cc

on-some : {A : Type 0} (P : A → Type 0) (y : A) → P y → On P (Some y)
on-some P y h x e = subst P (some-same y x e) h

on-then : {A B : Type 0} (P : B → Type 0) (f : A → Option B) (o : Option A) → ((x : A) → o ≡ Some x → On P (f x)) → On P (option_and_then f o)
on-then P f None h = on-none P
on-then P f (Some x) h = h x refl

on-map : {A B : Type 0} (P : B → Type 0) (f : A → B) (o : Option A) → ((x : A) → o ≡ Some x → P (f x)) → On P (option_map f o)
on-map P f None h = on-none P
on-map P f (Some x) h = on-some P (f x) (h x refl)

on-test : {A : Type 0} (P : A → Type 0) (b : Bool) (x y : Option A) → (b ≡ true → On P x) → (b ≡ false → On P y) → On P (cond b x y)
on-test P true x y f g = f refl
on-test P false x y f g = g refl

and_true : (a b : Bool) → (a && b) ≡ true → (a ≡ true) × (b ≡ true)
and_true true b h = (refl, h)
and_true false b h = cc

-- what the test of names finds is a word that is not too long
short : (n : ℕ) → leb n 128 ≡ true → n ≤ 128
short n h = leb-true n 128 h

name-fits : (w : Word) → is_name w ≡ true → IsShortWord w
name-fits w h =
    let parts = and_true (is_word w) _ h in
    ((word_test w).0 parts.0, short (length w) (and_true _ (leb (length w) 128) parts.1).1)

default-fits : IsShortWord (codes "default")
default-fits = name-fits (codes "default") refl

source-in : (w : Word) (halves : Option Halves) → On (λ s. IsShortWord s.space) (source_in w halves)
source-in w None = on-some (λ (s : Source). IsShortWord s.space) (whole_source w) default-fits
source-in w (Some h) = on-test (λ (s : Source). IsShortWord s.space) (is_name h.front) _ (Some (whole_source w))
    (λ named. on-test (λ (s : Source). IsShortWord s.space) _ _ None
    (λ some. on-some (λ (s : Source). IsShortWord s.space) (record { space = h.front; file = h.back }) (name-fits h.front named))
    (λ none. on-none (λ (s : Source). IsShortWord s.space)))
    (λ other. on-some (λ (s : Source). IsShortWord s.space) (whole_source w) default-fits)

given-fits : (w : Word) → On (λ g. IsShortWord g.name) (given_of w)
given-fits w = on-then (λ (g : Given). IsShortWord g.name) given_by (cut_at 61 w)
    (λ h e. on-test (λ (g : Given). IsShortWord g.name) (is_name h.front) _ None
    (λ named. on-some (λ (g : Given). IsShortWord g.name) _ (name-fits h.front named))
    (λ other. on-none (λ (g : Given). IsShortWord g.name)))

-- as many as there are words, each with the property
each-fits : {A : Type 0} (P : A → Type 0) (read : Word → Option A) → ((w : Word) → On P (read w)) → (ws : List Word)
    → On (λ xs. (length xs ≡ length ws) × All P xs) (each_of read ws)
each-fits {A} P read h [] = on-some (λ (xs : List A). (length xs ≡ 0) × All P xs) [] (refl, All-nil P)
each-fits {A} P read h (w ∷ ws) = on-then (λ (xs : List A). (length xs ≡ suc (length ws)) × All P xs) _ (read w)
    (λ x e. on-map (λ (xs : List A). (length xs ≡ suc (length ws)) × All P xs) (λ xs. x ∷ xs) (each_of read ws)
    (λ xs k. let rest = each-fits P read h ws xs k in (ap suc rest.0, All-cons P x xs (h w x e) rest.1)))

sources-fit : (ws : List Word) → On FitSources (sources_of ws)
sources-fit ws = on-test FitSources (leb (length ws) 16) (each_of source_of ws) None
    (λ few sources e.
    let fit = each-fits (λ (s : Source). IsShortWord s.space) source_of (λ w. source-in w (cut_at 58 w)) ws sources e in
    (subst (λ n. n ≤ 16) (sym fit.0) (leb-true (length ws) 16 few), fit.1))
    (λ many. on-none FitSources)

givens-fit : (ws : List Word) → On FitNames (each_of given_of ws)
givens-fit ws givens e = (each-fits (λ (g : Given). IsShortWord g.name) given_of given-fits ws givens e).1

split-fits : (command : List Source → Word → List Given → Command)
    → ((sources : List Source) (file : Word) (givens : List Given) → FitSources sources → FitNames givens → Fits (command sources file givens))
    → (s : Split) → On Fits (with_sources command s)
split-fits command fits s = on-then Fits _ (sources_of s.sources)
    (λ sources e. on-map Fits (command sources s.file) (each_of given_of s.givens)
    (λ givens k. fits sources s.file givens (sources-fit s.sources sources e) (givens-fit s.givens givens k)))

scan-fits : (flags : Flags) (places : List Word) → On Fits (scan_of flags places)
scan-fits flags places = on-then Fits (with_sources (Scan flags)) (split_of places)
    (λ s e. split-fits (Scan flags) (λ sources file givens f n. (f, n)) s)

image-fits : (flags : Flags) (places : List Word) → On Fits (scan_image_of flags places)
image-fits flags [] = on-none Fits
image-fits flags (w ∷ []) = on-none Fits
image-fits flags (image ∷ target ∷ words) = on-map Fits (ScanImage flags image target) (each_of given_of words) (λ givens e. tt)

compile-fits : (places : List Word) → On Fits (compile_of places)
compile-fits places = on-then Fits (with_sources Compile) (split_of places)
    (λ s e. split-fits Compile (λ sources file givens f n. (f, n)) s)

check-fits : (places : List Word) → On Fits (check_of places)
check-fits [] = on-none Fits
check-fits (w ∷ ws) = on-then Fits _ (sources_of (w ∷ before_givens ws))
    (λ sources e. on-map Fits (Check sources) (each_of given_of (last_givens ws))
    (λ givens k. (sources-fit (w ∷ before_givens ws) sources e, givens-fit (last_givens ws) givens k)))

number-fits : (most : ℕ) (w : Word) → On (λ n. n ≤ most) (number_up_to most w)
number-fits most w = on-test (λ n. n ≤ most) (is_number w && leb (digits_value 10 w) most) (Some (digits_value 10 w)) None
    (λ fits. let below = (and_true (is_number w) _ fits).1 in on-some (λ n. n ≤ most) (digits_value 10 w) (leb-true (digits_value 10 w) most below))
    (λ other. on-none (λ n. n ≤ most))

work-fits : (places : List Word) → On Fits (work_of places)
work-fits [] = on-none Fits
work-fits (w ∷ []) = on-none Fits
work-fits (number ∷ size ∷ []) = on-then Fits _ (number_up_to (2 ^ 64 - 1) number)
    (λ n e. on-map Fits (Work n) (number_up_to size_limit size) (λ m k. number-fits size_limit size m k))
work-fits (number ∷ size ∷ w ∷ ws) = on-none Fits

plain-fits : (name : Word) (places : List Word) → On Fits (plain_command name places)
plain-fits name places = on-test Fits (bytes_eq name (codes "compile")) (compile_of places) _ (λ is. compile-fits places)
    (λ other. on-test Fits (bytes_eq name (codes "check")) (check_of places) _ (λ is. check-fits places)
    (λ other. on-test Fits (bytes_eq name (codes "work")) (work_of places) None (λ is. work-fits places) (λ other. on-none Fits)))

scan_by-fits : (flags places : List Word) → On Fits (scan_by flags places)
scan_by-fits flags places = on-test Fits (list_all (is_flag_of scan_letters) flags) _ None
    (λ good. on-test Fits (has_letter 67 flags) (scan_image_of (scan_flags flags) places) (scan_of (scan_flags flags) places)
    (λ image. image-fits (scan_flags flags) places) (λ rules. scan-fits (scan_flags flags) places))
    (λ bad. on-none Fits)

pub command-fits : (words : List Word) → On Fits (command_of words)
command-fits [] = on-none Fits
command-fits (name ∷ words) = on-test Fits (bytes_eq name (codes "scan")) (scan_by (flags_of words) (places_of words)) _
    (λ scan. scan_by-fits (flags_of words) (places_of words))
    (λ other. on-test Fits (eqb (length (flags_of words)) 0) (plain_command name (places_of words)) None
    (λ plain. plain-fits name (places_of words)) (λ flags. on-none Fits))

-- names of which none stands twice are different
different-step : (n : Word) (b : Bool) (r : Option Word) (c k : ℕ) → cond b (Some n) r ≡ None → (r ≡ None → c ≡ k) → cond b c (c + 1) ≡ suc k
different-step n true r c k e h = cc
different-step n false r c k e h = ap (λ m. m + 1) (h e) ∙ add-one k

different : (names : List Word) → first_twice names ≡ None → AreDifferent names
different [] e = refl
different (n ∷ ns) e = different-step n _ _ _ _ e (different ns)

same-names : (givens : List Given) → map (λ e. e.name) (map external_of givens) ≡ map (λ g. g.name) givens
same-names [] = refl
same-names (g ∷ gs) = ap (λ l. g.name ∷ l) (same-names gs)

-- so they are externals
pub are_externals : (givens : List Given) → FitNames givens → twice_given givens ≡ None → AreExternals (map external_of givens)
are_externals givens names twice = (
  All-map (λ (e : PlainExternal). IsShortWord e.name) external_of givens names,
  subst AreDifferent (sym (same-names givens)) (different (map (λ (g : Given). g.name) givens) twice),
)
