use Rattle.std.proofs.Common.{ℕ, List, Bor, ap, sym, map, ◌∙◌}
use Rattle.indexmap.proofs.CallerLemmas.{insert_entry-new}
use Rattle.std.specs.Str.{bytes_eq}
use Rattle.hp_base.specs.Known.Known.{with_entry}
use Rattle.hp_base.proofs.KnownLemmas.KnownLaws.{entry_seen, with_entry-new, with_entry-known, none_found}
use Rattle.hp_base.proofs.known.known.Known.add.Goals as goal

pub returns-in_ok-insert : goal.returns-in_ok-insert
returns-in_ok-insert g c =
    let key : Bor (List ℕ) → List ℕ = λ k. k.now in
    let value : Bor g.row.T.Denot → g.row.T.Denot = λ r. r.now in
    let text = c.bytes-text.result in
    let entries = c.self.inside.entries in
    let absent = sym c.contains_key.ensures ∙ c.if-not-contains_key.true in
    ap (map (entry_seen key value)) (c.in_ok-insert.ensures.entries ∙ insert_entry-new (λ x y. bytes_eq x.now y.now) entries text c.args.value (none_found _ absent))
    ∙ with_entry-new key value entries.entries text c.args.value absent
    ∙ ap (λ es. with_entry es text.now c.args.value.now) c.self.view_is
    ∙ ap (λ x. with_entry c.args.self.now x c.args.value.now) c.bytes-text.ensures.bytes

pub returns-else-not-contains_key : goal.returns-else-not-contains_key
returns-else-not-contains_key g c =
    let key : Bor (List ℕ) → List ℕ = λ k. k.now in
    let value : Bor g.row.T.Denot → g.row.T.Denot = λ r. r.now in
    let text = c.bytes-text.result in
    sym c.self.view_is ∙ with_entry-known key value c.self.inside.entries.entries text c.args.value (sym c.contains_key.ensures ∙ c.if-not-contains_key.false)
    ∙ ap (λ es. with_entry es text.now c.args.value.now) c.self.view_is
    ∙ ap (λ x. with_entry c.args.self.now x c.args.value.now) c.bytes-text.ensures.bytes
