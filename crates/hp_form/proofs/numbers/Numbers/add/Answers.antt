use Rattle.std.proofs.Common.{◌≡◌, ℕ, List, [], ◌∷◌, ◌++◌, true, false, Bor, None, is_some, map, ap, sym, refl, ◌∙◌}
use Rattle.std.proofs.lemmas.List.{map-append}
use Rattle.indexmap.proofs.CallerLemmas.{insert_entry-new}
use Rattle.std.specs.Str.{bytes_eq}
use Rattle.hp_base.specs.Known.Known.{lookup}
use Rattle.hp_base.proofs.KnownLemmas.KnownLaws.{entry_seen, known-map, none_found}
use Rattle.hp_form.proofs.EachLaws.{decides_by, missing}
use Rattle.hp_form.proofs.numbers.Numbers.add.Goals as goal

pub returns-then-contains_key-clause-fresh : goal.returns-then-contains_key-clause-fresh
returns-then-contains_key-clause-fresh c =
    let key : Bor (List ℕ) → List ℕ = λ k. k.now in
    let value : ℕ → ℕ = λ n. n in
    let there : is_some (lookup c.args.self.now c.args.name.now) ≡ true =
    ap (λ es. is_some (lookup es c.args.name.now)) (sym c.self.view_is)
    ∙ ap (λ x. is_some (lookup (map (entry_seen key value) c.self.inside.entries.entries) x)) (sym c.bytes-text.ensures.bytes)
    ∙ sym (known-map key value c.self.inside.entries.entries c.bytes-text.result.now) ∙ sym c.contains_key.ensures ∙ c.if-contains_key.true in
    decides_by (missing c.args.self.now c.args.name.now) ((λ e. absurd cc), (λ (e : lookup c.args.self.now c.args.name.now ≡ None). let f : is_some (lookup c.args.self.now c.args.name.now) ≡ false = ap is_some e in absurd cc))

pub returns-clause-fresh : goal.returns-clause-fresh
returns-clause-fresh c =
    let key : Bor (List ℕ) → List ℕ = λ k. k.now in
    let value : ℕ → ℕ = λ n. n in
    let new : is_some (lookup c.args.self.now c.args.name.now) ≡ false =
    ap (λ es. is_some (lookup es c.args.name.now)) (sym c.self.view_is)
    ∙ ap (λ x. is_some (lookup (map (entry_seen key value) c.self.inside.entries.entries) x)) (sym c.bytes-text.ensures.bytes)
    ∙ sym (known-map key value c.self.inside.entries.entries c.bytes-text.result.now) ∙ sym c.contains_key.ensures ∙ c.if-contains_key.false in
    decides_by (missing c.args.self.now c.args.name.now) ((λ e. none_found (lookup c.args.self.now c.args.name.now) new), (λ e. refl))

pub returns-clause-added : goal.returns-clause-added
returns-clause-added c =
    let key : Bor (List ℕ) → List ℕ = λ k. k.now in
    let value : ℕ → ℕ = λ n. n in
    let text = c.bytes-text.result in
    let entries = c.self.inside.entries in
    let absent = sym c.contains_key.ensures ∙ c.if-contains_key.false in
    λ e. ap (map (entry_seen key value)) (c.in_ok-insert.ensures.entries ∙ insert_entry-new (λ x y. bytes_eq x.now y.now) entries text c.args.number (none_found _ absent))
    ∙ map-append (entry_seen key value) entries.entries ((text, c.args.number) ∷ [])
    ∙ ap (λ es. es ++ (text.now, c.args.number) ∷ []) c.self.view_is
    ∙ ap (λ x. c.args.self.now ++ (x, c.args.number) ∷ []) c.bytes-text.ensures.bytes
