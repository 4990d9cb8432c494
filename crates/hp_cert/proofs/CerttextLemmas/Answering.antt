-- A text is that of one certificate, or is refused at one place.
use Rattle.std.proofs.Common.{◌≡◌, ◌≤◌, ◌-◌, ℕ, List, [], ◌∷◌, ◌++◌, length, refl, sym, ap, subst, ◌∙◌, append_assoc, append-nil, arith}
use Rattle.std.proofs.lemmas.List.{length-append}
use Rattle.hp_base.specs.Limits.{most}
use Rattle.hp_base.specs.declared.limit.What.TheVariants as what
use Rattle.hp_base.specs.declared.span.Span.{Span}
use Rattle.hp_cert.specs.Certtext.Certificates.{Certificate, HasForm}
use Rattle.hp_cert.specs.Certtext.Outcomes.{Outcome, done, refused, ◌>>=◌}
use Rattle.hp_cert.specs.Certtext.Pieces.{Piece, Pieces, pieces, joined}
use Rattle.hp_cert.specs.Certtext.Reading as reading
use Rattle.hp_cert.specs.Certtext.Refusals.{Start, IsBegun, IsDead, place_behind, IsRefused}
use Rattle.hp_cert.specs.Certtext.Texts.{cert_pieces, cert_text, IsCertText}
use Rattle.hp_cert.proofs.CerttextLemmas.CertPieces.{text_pieces}
use Rattle.hp_cert.proofs.CerttextLemmas.FormatCert.{BodyTakes, body_phrase}
use Rattle.hp_cert.proofs.CerttextLemmas.Phrases.{Begun, Shares, Halts, Course, start_behind, start_self}
use Rattle.hp_cert.proofs.CerttextLemmas.Joined.{joined_pieces}
use Rattle.hp_cert.proofs.CerttextLemmas.WrittenLaws.{joined_append}

-- ---- what reading comes to

pub record Refusal (ts rest : Pieces) : Type 0 where
  pub front : Pieces
  pub split : ts ≡ front ++ rest
  pub begun : IsBegun front rest
  pub dead : IsDead front rest

abbrev pub Answer : Pieces → Outcome Certificate → Type 0
Answer ts (done c rest) = (rest ≡ []) × HasForm c × (ts ≡ cert_pieces c)
Answer ts (refused rest) = Refusal ts rest

body_reads : (c : Certificate) (rest : Pieces) → HasForm c → reading.body (cert_pieces c ++ rest) ≡ done c rest
body_reads c rest f = body_phrase.complete (cert_pieces c ++ rest) c rest (f, refl)

-- where the lines are refused
refused_body : (ts rest : Pieces) → Halts BodyTakes ts rest → Refusal ts rest
refused_body ts rest h = record { front = h.front; split = h.split; begun = begun h.front rest h.whole h.value (h.is_whole.always []) h.begun; dead = dead h.front rest h.dead }
  where
    begun : (front rest whole : Pieces) (c : Certificate) → BodyTakes (whole ++ []) c [] → Begun front rest whole → IsBegun front rest
    begun front [] whole c t b =
        let e : whole ≡ cert_pieces c = sym (append-nil whole) ∙ t.1 ∙ append-nil (cert_pieces c) in
        record { cert = c; form = t.0; start = subst (Start front) e b }
    begun front (w ∷ behind) whole c t b =
        let e : whole ≡ cert_pieces c = sym (append-nil whole) ∙ t.1 ∙ append-nil (cert_pieces c) in
        record { cert = c; form = t.0; more = b.0; whole = sym e ∙ b.1 }

    dead : (front rest : Pieces) → ((other : Pieces) (c : Certificate) (y : Pieces) → BodyTakes other c y → Shares front rest other → ⊥) → IsDead front rest
    dead front [] d = λ c f e. d (cert_pieces c) c [] (f, sym (append-nil (cert_pieces c))) e
    dead front (w ∷ []) d = λ s. d (cert_pieces s.cert) s.cert [] (s.form, sym (append-nil (cert_pieces s.cert))) s.start
    dead front (w ∷ v ∷ behind) d = λ s. d (cert_pieces s.cert) s.cert [] (s.form, sym (append-nil (cert_pieces s.cert))) (s.more, s.whole ∙ append_assoc front (w ∷ []) s.more)

-- behind a certificate nothing stands
longer : (c b : Certificate) (vs : Pieces) → HasForm c → HasForm b → cert_pieces b ≡ cert_pieces c ++ vs → vs ≡ []
longer c b vs f g e =
    let left : reading.body (cert_pieces b) ≡ done b [] = ap reading.body (sym (append-nil (cert_pieces b))) ∙ body_reads b [] g in
    let right : reading.body (cert_pieces b) ≡ done c vs = ap reading.body e ∙ body_reads c vs f in
    cc

refused_behind : (ts : Pieces) (c : Certificate) (w : Piece) (behind : Pieces) → HasForm c → ts ≡ cert_pieces c ++ w ∷ behind → Refusal ts (w ∷ behind)
refused_behind ts c w behind f e = record { front = cert_pieces c; split = e; begun = record { cert = c; form = f; more = []; whole = sym (append-nil (cert_pieces c)) }; dead = dead behind }
  where
    nothing : (v : Piece) (vs : Pieces) → v ∷ vs ≡ [] → ⊥
    nothing v vs h = cc

    some : (vs : Pieces) → Start (w ∷ []) vs → vs ≡ [] → ⊥
    some [] s h = s
    some (v ∷ vs) s h = nothing v vs h

    dead : (behind : Pieces) → IsDead (cert_pieces c) (w ∷ behind)
    dead [] = λ s. let r = start_behind (cert_pieces c) [] w (cert_pieces s.cert) s.start in some r.0 r.2 (longer c s.cert r.0 f s.form r.1)
    dead (v ∷ behind) = λ s. nothing w s.more (longer c s.cert (w ∷ s.more) f s.form (s.whole ∙ append_assoc (cert_pieces c) (w ∷ []) s.more))

pub cert_answers : (ts : Pieces) → Answer ts (reading.cert ts)
cert_answers ts = by (reading.body ts) (body_phrase.course ts)
  where
    by : (o : Outcome Certificate) → Course BodyTakes ts o → Answer ts (o >>= λ c. reading.alone c.0 c.1)
    by (done c []) h = (refl, h.0, h.1 ∙ append-nil (cert_pieces c))
    by (done c (w ∷ behind)) h = refused_behind ts c w behind h.0 h.1
    by (refused rest) h = refused_body ts rest h

-- ---- texts

pub cert_of : (text : List ℕ) (c : Certificate) (rest : Pieces) → reading.cert (pieces text) ≡ done c rest → IsCertText text c
cert_of text c rest e =
    let a : Answer (pieces text) (done c rest) = subst (Answer (pieces text)) e (cert_answers (pieces text)) in
    record { form = a.1; text_is = sym (joined_pieces text) ∙ ap joined a.2 }

pub cert_read : (text : List ℕ) (c : Certificate) → length text ≤ most what.Text → IsCertText text c → reading.cert (pieces text) ≡ done c []
cert_read text c within h =
    let e = h.text_is in
    let small : length (cert_text c) ≤ 67108864 = subst (λ (t : List ℕ). length t ≤ 67108864) e within in
    ap reading.cert (ap pieces e ∙ text_pieces c h.form small ∙ sym (append-nil (cert_pieces c)))
    ∙ ap (λ o. o >>= λ c. reading.alone c.0 c.1) (body_reads c [] h.form)

pub refused_at : (text : List ℕ) (rest : Pieces) (at : ℕ) (span : Span) → length text ≤ most what.Text → reading.cert (pieces text) ≡ refused rest → at ≡ length text - length (joined rest) →
    ((front rest : Pieces) → pieces text ≡ front ++ rest → at ≡ length (joined front) → span ≡ place_behind front rest) → IsRefused text span
refused_at text rest at span within e where_ place =
    let a : Refusal (pieces text) rest = subst (Answer (pieces text)) e (cert_answers (pieces text)) in
    let whole = ap length (sym (joined_pieces text) ∙ ap joined a.split ∙ joined_append a.front rest) ∙ length-append (joined a.front) (joined rest) in
    record { within = within; front = a.front; rest = rest; split = a.split; begun = a.begun; dead = a.dead; place = place a.front rest a.split (omega (arith, where_, whole)) }

-- what is ahead is within the text
pub rest_within : (text : List ℕ) (rest : Pieces) → reading.cert (pieces text) ≡ refused rest → length (joined rest) ≤ length text
rest_within text rest e =
    let a : Refusal (pieces text) rest = subst (Answer (pieces text)) e (cert_answers (pieces text)) in
    let whole = ap length (sym (joined_pieces text) ∙ ap joined a.split ∙ joined_append a.front rest) ∙ length-append (joined a.front) (joined rest) in
    omega (arith, whole)

-- a certificate is not refused
pub not_refused : (text : List ℕ) (c : Certificate) (rest : Pieces) → length text ≤ most what.Text → IsCertText text c → reading.cert (pieces text) ≡ refused rest → ⊥
not_refused text c rest within h e = let both : done c [] ≡ refused rest = sym (cert_read text c within h) ∙ e in cc

pub same_cert : (text : List ℕ) (c b : Certificate) (rest : Pieces) → length text ≤ most what.Text → IsCertText text c → reading.cert (pieces text) ≡ done b rest → b ≡ c
same_cert text c b rest within h e = let both : done c [] ≡ done b rest = sym (cert_read text c within h) ∙ e in cc

-- ---- one place

-- pieces that begin others, where some more stand behind
starts_whole : (front : Pieces) (w x : Piece) (xs whole : Pieces) → Start (front ++ w ∷ x ∷ xs) whole → (more : Pieces) × (whole ≡ (front ++ w ∷ []) ++ more)
starts_whole [] w x xs [] h = absurd h
starts_whole [] w x xs (v ∷ whole) h = (whole, ap (λ z. z ∷ whole) (sym h.0))
starts_whole (u ∷ []) w x xs [] h = absurd h
starts_whole (u ∷ []) w x xs (v ∷ whole) h = let r = starts_whole [] w x xs whole h.1 in (r.0, ap (λ z. z ∷ whole) (sym h.0) ∙ ap (λ z. u ∷ z) r.1)
starts_whole (u ∷ t ∷ front) w x xs [] h = absurd h
starts_whole (u ∷ t ∷ front) w x xs (v ∷ whole) h = let r = starts_whole (t ∷ front) w x xs whole h.1 in (r.0, ap (λ z. z ∷ whole) (sym h.0) ∙ ap (λ z. u ∷ z) r.1)

-- a place before another that is begun is not dead
before : (front : Pieces) (w : Piece) (xs rest : Pieces) → IsBegun (front ++ w ∷ xs) rest → IsDead front (w ∷ (xs ++ rest)) → ⊥
before front w [] [] b d = d b
before front w (x ∷ xs) [] b d = let s = starts_whole front w x xs (cert_pieces b.cert) b.start in d (record { cert = b.cert; form = b.form; more = s.0; whole = s.1 })
before front w [] (v ∷ []) b d = d (record { cert = b.cert; form = b.form; more = b.more; whole = b.whole })
before front w [] (v ∷ u ∷ rest) b d = d (record { cert = b.cert; form = b.form; more = b.more; whole = b.whole })
before front w (x ∷ []) (v ∷ rest) b d =
    d (record { cert = b.cert; form = b.form; more = x ∷ b.more; whole = b.whole ∙ append_assoc front (w ∷ x ∷ []) b.more ∙ sym (append_assoc front (w ∷ []) (x ∷ b.more)) })
before front w (x ∷ y ∷ xs) (v ∷ rest) b d =
    d (record { cert = b.cert; form = b.form; more = x ∷ y ∷ (xs ++ b.more); whole = b.whole ∙ append_assoc front (w ∷ x ∷ y ∷ xs) b.more ∙ sym (append_assoc front (w ∷ []) (x ∷ y ∷ (xs ++ b.more))) })

-- two ways to cut a list: they are the same, or one front is longer
data Cuts (f g : Pieces) (r s : Pieces) : Type 0 where
  same : f ≡ g → r ≡ s → Cuts f g r s
  left : (w : Piece) (xs : Pieces) → g ≡ f ++ w ∷ xs → r ≡ w ∷ (xs ++ s) → Cuts f g r s
  right : (w : Piece) (xs : Pieces) → f ≡ g ++ w ∷ xs → s ≡ w ∷ (xs ++ r) → Cuts f g r s

tails : (u v : Piece) (us vs : Pieces) → u ∷ us ≡ v ∷ vs → (u ≡ v) × (us ≡ vs)
tails u v us vs e = (cc, cc)

cuts : (f g r s : Pieces) → f ++ r ≡ g ++ s → Cuts f g r s
cuts [] [] r s e = same refl e
cuts [] (v ∷ g) r s e = left v g refl e
cuts (u ∷ f) [] r s e = right u f refl (sym e)
cuts (u ∷ f) (v ∷ g) r s e = more (tails u v (f ++ r) (g ++ s) e).0 (cuts f g r s (tails u v (f ++ r) (g ++ s) e).1)
  where
    more : u ≡ v → Cuts f g r s → Cuts (u ∷ f) (v ∷ g) r s
    more p (same a b) = same (ap (λ z. z ∷ f) p ∙ ap (λ z. v ∷ z) a) b
    more p (left w xs a b) = left w xs (ap (λ z. z ∷ g) (sym p) ∙ ap (λ z. u ∷ z) a) b
    more p (right w xs a b) = right w xs (ap (λ z. z ∷ f) p ∙ ap (λ z. v ∷ z) a) b

pub one_refusal : (text : List ℕ) (p q : Span) → IsRefused text p → IsRefused text q → p ≡ q
one_refusal text p q a b = by (cuts a.front b.front a.rest b.rest (sym a.split ∙ b.split))
  where
    by : Cuts a.front b.front a.rest b.rest → p ≡ q
    by (same e f) = a.place ∙ ap (λ z. place_behind z a.rest) e ∙ ap (place_behind b.front) f ∙ sym b.place
    by (left w xs e f) = absurd (before a.front w xs b.rest (subst (λ z. IsBegun z b.rest) e b.begun) (subst (IsDead a.front) f a.dead))
    by (right w xs e f) = absurd (before b.front w xs a.rest (subst (λ z. IsBegun z a.rest) e a.begun) (subst (IsDead b.front) f b.dead))

pub no_cert : (text : List ℕ) (p : Span) (c : Certificate) → IsRefused text p → length text ≤ most what.Text → IsCertText text c → ⊥
no_cert text p c a within h = dies a.front a.rest (sym all ∙ a.split) a.dead
  where
    all : pieces text ≡ cert_pieces c
    all =
        let e = h.text_is in
        let small : length (cert_text c) ≤ 67108864 = subst (λ (t : List ℕ). length t ≤ 67108864) e within in
        ap pieces e ∙ text_pieces c h.form small

    dies : (front rest : Pieces) → cert_pieces c ≡ front ++ rest → IsDead front rest → ⊥
    dies front [] e d = d c h.form (e ∙ append-nil front)
    dies front (w ∷ []) e d = d (record { cert = c; form = h.form; start = subst (λ z. Start z (cert_pieces c)) e (start_self (cert_pieces c)) })
    dies front (w ∷ v ∷ behind) e d = d (record { cert = c; form = h.form; more = v ∷ behind; whole = e ∙ sym (append_assoc front (w ∷ []) (v ∷ behind)) })
