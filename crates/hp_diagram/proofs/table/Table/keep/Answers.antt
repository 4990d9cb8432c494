use Rattle.std.proofs.Common.{◌≡◌, Result, Ok, Err, OnOk, OnErr, Contains, sym, refl, subst}
use Rattle.lru.specs.LruCache.{LruCache, lru_cache, put_entries}
use Rattle.hp_diagram.specs.declared.reference.Ref.{Ref}
use Rattle.hp_diagram.specs.declared.question.Question.{Question}
use Rattle.hp_diagram.specs.Diagrams.{Diagrams, IsAnswer, IsSound, Keeps}
use Rattle.hp_diagram.proofs.Growth.{AreAnswers-kept}
use Rattle.hp_diagram.proofs.Kept.{question_eq, IsSound-same, Keeps-same, right-put}
use Rattle.hp_diagram.proofs.table.Table.keep.Goals as goal

abbrev after : goal.After-put → Diagrams
after c = record { vars = c.self.inside.vars; nodes = c.self.inside.nodes.keys; answers = c.put.new.self.entries }

abbrev before : goal.After-put → Diagrams
before c = record { vars = c.self.inside.vars; nodes = c.self.inside.nodes.keys; answers = c.self.inside.answers.entries }

-- each answer is right, whether or not there was memory for the new one
right : {A B : Type 0} (t : Diagrams) (old new : LruCache Question Ref) (k : Question) (v : Ref) (o : Result A B) → old.entries ≡ t.answers → IsSound t → IsAnswer t k v → OnOk o (new ≡ lru_cache (put_entries question_eq old k v) old.cap) → OnErr o (new ≡ old) → (q : Question) (r : Ref) → Contains new.entries (q, r) → IsAnswer t q r
right t old new k v (Ok a) same sound answer ok err q r there =
    right-put t old k v same sound answer q r (subst (λ (c : LruCache Question Ref). Contains c.entries (q, r)) ok there)
right t old new k v (Err b) same sound answer ok err q r there =
    sound.answers q r (subst (λ l. Contains l (q, r)) same (subst (λ (c : LruCache Question Ref). Contains c.entries (q, r)) err there))

pub invariant_of-self : goal.invariant_of-self
invariant_of-self c = (
  IsSound-same (before c) (after c) refl refl c.self.invariant.0
      (right (before c) c.self.inside.answers c.put.new.self c.args.q c.args.r c.put.result refl c.self.invariant.0 (subst (λ t. IsAnswer t c.args.q c.args.r) (sym c.self.view_is) c.requires) c.put.ensures.entries c.put.ensures.err),
  AreAnswers-kept (before c) (after c) (Keeps-same (before c) (after c) refl refl c.self.invariant.0) c.self.inside.recent.items c.self.invariant.1,
)

pub returns-clause-keeps : goal.returns-clause-keeps
returns-clause-keeps c = subst (λ t. Keeps t (after c)) c.self.view_is (Keeps-same (before c) (after c) refl refl c.self.invariant.0)
