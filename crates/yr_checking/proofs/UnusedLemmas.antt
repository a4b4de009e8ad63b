-- A string is used where all are, where its name stands whole, or where it begins with a front.
use Rattle.std.proofs.Common.{◌≡◌, ◌||◌, Bool, true, false, List, [], ◌∷◌, refl, sym, ap, ◌∙◌}
use Rattle.std.specs.Prelude.{codes, not}
use Rattle.std.specs.Option.{option_or}
use Rattle.std.specs.List.{list_any, flat_map}
use Rattle.std.specs.Str.{bytes_eq}
use Rattle.yr_name_tables.specs.Names.{Name, has, has_front, begins, first, with_sign}
use Rattle.yr_name_tables.proofs.NameLemmas.{bytes_eq-turned}
use Rattle.yr_conditions.specs.Uses as use'
use Rattle.yr_conditions.specs.Uses.{Use}
use Rattle.yr_checks.specs.Checks.{uses_string, unused_string}
use Rattle.yr_checks.specs.Given.{name_if}
use Rattle.yr_checking.specs.Unused.{is_everything, is_used, front_name, whole_name, without_use}

or-whole : (a e w f : Bool) → (a || (e || (w || f))) ≡ (e || ((a || w) || f))
or-whole true true w f = refl
or-whole true false w f = refl
or-whole false e w f = refl

or-front : (a e w f : Bool) → (a || (e || (w || f))) ≡ (e || (w || (a || f)))
or-front true true w f = refl
or-front true false true f = refl
or-front true false false f = refl
or-front false e w f = refl

whole : (s n : Name) (us : List Use) → list_any (uses_string s) us ≡ is_used (list_any is_everything us) (flat_map whole_name us) (flat_map front_name us) s
    → (bytes_eq n s || list_any (uses_string s) us) ≡ is_used (list_any is_everything us) (n ∷ flat_map whole_name us) (flat_map front_name us) s
whole s n us h =
    let e = list_any is_everything us in let w = has s (flat_map whole_name us) in let f = has_front (flat_map front_name us) s in
    ap (λ b. bytes_eq n s || b) h ∙ or-whole (bytes_eq n s) e w f ∙ ap (λ b. e || ((b || w) || f)) (bytes_eq-turned n s)

used-alike : (s : Name) (us : List Use) → list_any (uses_string s) us ≡ is_used (list_any is_everything us) (flat_map whole_name us) (flat_map front_name us) s
unfolding has_front
used-alike s [] = refl
used-alike s (use'.String sign n ∷ us) = whole s n us (used-alike s us)
used-alike s (use'.Nameless sign ∷ us) = used-alike s us
used-alike s (use'.Member n true ∷ us) =
    ap (λ b. begins n s || b) (used-alike s us) ∙ or-front (begins n s) (list_any is_everything us) (has s (flat_map whole_name us)) (has_front (flat_map front_name us) s)
used-alike s (use'.Member n false ∷ us) = whole s n us (used-alike s us)
used-alike s (use'.Everything ∷ us) = refl
used-alike s (use'.Earlier n wild ∷ us) = used-alike s us
used-alike s (use'.Unknown w ∷ us) = used-alike s us
used-alike s (use'.Expression r ∷ us) = used-alike s us
used-alike s (use'.Loop round ∷ us) = used-alike s us
used-alike s (use'.Listed items ∷ us) = used-alike s us

alike : (us : List Use) (s : Name) → without_use (list_any is_everything us) (flat_map whole_name us) (flat_map front_name us) s ≡ unused_string us s
unfolding without_use unused_string
alike us s = ap (λ b. name_if (not (begins (codes "_") s || b)) (with_sign s)) (sym (used-alike s us))

pub first_alike : (us : List Use) (strings : List Name)
    → first (without_use (list_any is_everything us) (flat_map whole_name us) (flat_map front_name us)) strings ≡ first (unused_string us) strings
first_alike us [] = refl
first_alike us (s ∷ strings) =
    ap (λ o. option_or o (first (without_use (list_any is_everything us) (flat_map whole_name us) (flat_map front_name us)) strings)) (alike us s)
    ∙ ap (option_or (unused_string us s)) (first_alike us strings)
