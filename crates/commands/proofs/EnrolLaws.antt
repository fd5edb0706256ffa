-- Depositors who are enrolled one after another.
use Rattle.std.proofs.Common.{◌≡◌, ◌∙◌, sym, refl, ap, subst, ℕ, ◌<◌, ◌+◌, true, List, [], ◌∷◌, ◌++◌, length, take, get_or, Option, append-nil, append_assoc, inl, inr}
use Rattle.std.proofs.KnownBytes.{Appends-trans}
use Rattle.std.specs.Io.KnownBytes.{Appends}
use Rattle.std.proofs.lemmas.List.{map-append, take_more}
use Rattle.definitions.specs.Rules.{Today}
use Rattle.definitions.specs.Accepted.{accepted_on, replies_on, after, reply_to}
use Rattle.definitions.specs.Header.{Who}
use Rattle.definitions.specs.Moments.{Moment}
use Rattle.definitions.specs.Register.{Entry, Enrol}
use Rattle.store.proofs.Changes.{clean_before, refused_after}
use Rattle.store.proofs.Replies.{accepted_on-more, replies_on-more}
use Rattle.store.specs.Standing.{Standing, IsUsable, KeepsLegal, GoesOn, LeavesEither, IsFault, IsRunFault, OfKept, OfUsable}
use Rattle.store.specs.Fault.{Fault}
use Rattle.commands.proofs.ActLaws.{reply_more}
use Rattle.commands.proofs.TellingLaws.{appends_nothing}
use Rattle.commands.proofs.PrintingLaws.{front_second}
use Rattle.commands.specs.Enrolling.{enrolments, status_of_replies, line_of, lines_of, AreEnrolled, AreEnrolledUntil, IsListStopped, IsUnenrolled, IsUnlisted}
use Rattle.commands.specs.Printing.{AppendsFront}
use Rattle.commands.specs.Statuses.{and_then}
use Rattle.commands.specs.Stops.{IsFaultThat, IsSilent, IsStopped, IsUntold}
use Rattle.commands.specs.Telling as told
use Rattle.commands.specs.declared.told.CommandError.{CommandError}
use Rattle.commands.specs.declared.told.CommandError.TheVariants as stops
use Rattle.commands.specs.declared.told.ExitStatus.{ExitStatus}
use Rattle.commands.specs.declared.told.ExitStatus.TheVariants.{Done}

no_lines : (W : Who) (L : List Entry) (t : Moment) → lines_of W L t [] ≡ []
unfolding lines_of
no_lines W L t = refl

pub none_enrolled : (a : Standing) (t : Moment) (before : Option (List ℕ)) → AreEnrolled a a [] t before before Done
none_enrolled a t before = record {
  usable = λ clean L u. u;
  keeps = λ clean L k legal. record { keeps = k; legal = legal };
  says = λ clean L u. refl;
  printed = λ clean L u. rw (no_lines a.warehouse L t) (appends_nothing before);
}

lines_more : (W : Who) (L : List Entry) (t : Moment) (xs : List Who) (who : Who)
    → lines_of W L t (xs ++ who ∷ []) ≡ lines_of W L t xs ++ line_of who (reply_to Today W (accepted_on Today W L (enrolments t xs)) (Enrol who) t)
unfolding lines_of
lines_more W L t [] who = append-nil _
lines_more W L t (x ∷ xs) who =
    ap (λ (ls : List ℕ). line_of x (reply_to Today W L (Enrol x) t) ++ ls) (lines_more W (after Today W L (Enrol x, t)) t xs who) ∙ sym (append_assoc (line_of x (reply_to Today W L (Enrol x) t)) _ _)

enrolments_more : (t : Moment) (xs : List Who) (who : Who) → enrolments t (xs ++ who ∷ []) ≡ enrolments t xs ++ (Enrol who, t) ∷ []
enrolments_more t xs who = map-append (λ (w : Who). (Enrol w, t)) xs (who ∷ [])

-- the register after one more, where another call names the house
grown : (V W : Who) (L : List Entry) (xs : List Who) (who : Who) (t : Moment) → V ≡ W
    → after Today V (accepted_on Today W L (enrolments t xs)) (Enrol who, t) ≡ accepted_on Today W L (enrolments t (xs ++ who ∷ []))
grown V W L xs who t house =
    ap (λ U. after Today U (accepted_on Today W L (enrolments t xs)) (Enrol who, t)) house
    ∙ sym (ap (accepted_on Today W L) (enrolments_more t xs who) ∙ accepted_on-more Today W L (enrolments t xs) (Enrol who, t))

enrolled_more : (a b c : Standing) (xs : List Who) (who : Who) (t : Moment) (out mid later : Option (List ℕ)) (status one : ExitStatus) → GoesOn a b → GoesOn b c → AreEnrolled a b xs t out mid status
    → OfKept b c (λ L. one ≡ told.status_of (reply_to Today b.warehouse L (Enrol who) t))
    → OfKept b c (λ L. Appends mid later (line_of who (reply_to Today b.warehouse L (Enrol who) t)))
    → OfUsable b c (λ L. IsUsable c (after Today b.warehouse L (Enrol who, t)))
    → OfKept b c (λ L. KeepsLegal c (after Today b.warehouse L (Enrol who, t)))
    → AreEnrolled a c (xs ++ who ∷ []) t out later (and_then status one)
enrolled_more a b c xs who t out mid later status one p q before said prints goes stays = record {
  usable = λ clean L u.
      let mid = before.usable (clean_before b c q clean) L u in
      subst (IsUsable c) (grown b.warehouse a.warehouse L xs who t p.warehouse) (goes clean _ mid);
  keeps = λ clean L k legal.
      let mid = before.keeps (clean_before b c q clean) L k legal in
      subst (KeepsLegal c) (grown b.warehouse a.warehouse L xs who t p.warehouse) (stays clean _ mid.keeps mid.legal);
  says = λ clean L u.
      let early = clean_before b c q clean in
      let mid = before.usable early L u in
      let W = a.warehouse in
      ap (λ s. and_then s one) (before.says early L u)
      ∙ ap (and_then (status_of_replies (replies_on Today W L (enrolments t xs)))) (said clean _ mid.keeps mid.legal)
      ∙ reply_more (replies_on Today W L (enrolments t xs)) (reply_to Today b.warehouse (accepted_on Today W L (enrolments t xs)) (Enrol who) t)
      ∙ ap (λ U. status_of_replies (replies_on Today W L (enrolments t xs) ++ reply_to Today U (accepted_on Today W L (enrolments t xs)) (Enrol who) t ∷ [])) p.warehouse
      ∙ sym (ap status_of_replies (ap (replies_on Today W L) (enrolments_more t xs who) ∙ replies_on-more Today W L (enrolments t xs) (Enrol who, t)));
  printed = λ clean L u.
      let early = clean_before b c q clean in
      let now = before.usable early L u in
      let W = a.warehouse in
      let line = subst (λ (U : Who). Appends mid later (line_of who (reply_to Today U (accepted_on Today W L (enrolments t xs)) (Enrol who) t))) p.warehouse
      (prints clean _ now.keeps now.legal) in
      subst (Appends out later) (sym (lines_more W L t xs who)) (Appends-trans out mid later _ _ (before.printed early L u) line);
}

one_more : (whos : List Who) (i : ℕ) (who : Who) → i < length whos → who ≡ get_or whos i who → take (i + 1) whos ≡ take i whos ++ who ∷ []
one_more whos i who lt is = take_more whos i who lt ∙ ap (λ w. take i whos ++ w ∷ []) (sym is)

-- the list of the first ones, with the next
pub enrolled_next : (a b c : Standing) (whos : List Who) (i : ℕ) (who : Who) (t : Moment) (out mid later : Option (List ℕ)) (status one last : ExitStatus) → last ≡ and_then status one
    → i < length whos → who ≡ get_or whos i who → GoesOn a b → GoesOn b c → AreEnrolled a b (take i whos) t out mid status
    → OfKept b c (λ L. one ≡ told.status_of (reply_to Today b.warehouse L (Enrol who) t))
    → OfKept b c (λ L. Appends mid later (line_of who (reply_to Today b.warehouse L (Enrol who) t)))
    → OfUsable b c (λ L. IsUsable c (after Today b.warehouse L (Enrol who, t)))
    → OfKept b c (λ L. KeepsLegal c (after Today b.warehouse L (Enrol who, t)))
    → AreEnrolled a c (take (i + 1) whos) t out later last
enrolled_next a b c whos i who t out mid later status one last ends lt is p q before said prints goes stays =
    subst (λ (s : ExitStatus). AreEnrolled a c (take (i + 1) whos) t out later s) (sym ends)
    (subst (λ (ws : List Who). AreEnrolled a c ws t out later (and_then status one)) (sym (one_more whos i who lt is))
    (enrolled_more a b c (take i whos) who t out mid later status one p q before said prints goes stays))

-- the fault of one is that of a run of them
fault_of_run : (a b c : Standing) (ws : List Who) (t : Moment) (out mid : Option (List ℕ)) (status : ExitStatus) → GoesOn a b → GoesOn b c → a.shut ≡ b.shut
    → AreEnrolled a b ws t out mid status → (fault : Fault) → IsFault fault b c → IsRunFault fault true a c
fault_of_run a b c ws t out mid status p q same before fault f = record {
  grew = λ was is. refused_after a b c p (f.broken (sym same ∙ was) is);
  store = λ h. refused_after a b c p (f.why.store h);
  reopen = λ h. same ∙ f.why.reopen h;
  not_this = λ h given clean L k legal. f.why.not_this h clean _ (before.keeps (clean_before b c q clean) L k legal).keeps;
  device = f.why.device;
}

-- what is so of the fault of a stop
fault_in_run : (stop : CommandError) (P Q : Fault → Type 0) → ((fault : Fault) → P fault → Q fault) → IsFaultThat stop P → IsFaultThat stop Q
fault_in_run (stops.Usage text) P Q then' h = absurd h
fault_in_run (stops.Fault fault) P Q then' h = then' fault h
fault_in_run (stops.Caused fault cause) P Q then' h = then' fault h

-- the next wasn't answered
unenrolled : (a b c : Standing) (xs : List Who) (t : Moment) (out mid later : Option (List ℕ)) (status : ExitStatus) (stop : CommandError) → GoesOn a b → GoesOn b c → a.shut ≡ b.shut
    → AreEnrolled a b xs t out mid status → IsSilent (λ fault. IsFault fault b c) mid later stop → IsUnenrolled a c xs t out later stop
unenrolled a b c xs t out mid later status stop p q same before h = record {
  why = fault_in_run stop (λ fault. IsFault fault b c) (λ fault. IsRunFault fault true a c) (fault_of_run a b c xs t out mid status p q same before) h.0;
  printed = λ clean L u.
      let lines = lines_of a.warehouse L t xs in
      subst (Appends out later) (append-nil lines) (Appends-trans out mid later lines [] (before.printed (clean_before b c q clean) L u) h.1);
}

-- the next was answered, and its line couldn't be printed
unlisted : (a b c : Standing) (xs : List Who) (who : Who) (t : Moment) (out mid later : Option (List ℕ)) (status : ExitStatus) (stop : CommandError) → GoesOn a b → GoesOn b c
    → AreEnrolled a b xs t out mid status → IsUntold b c (Enrol who) t (line_of who) mid later stop → IsUnlisted a c (xs ++ who ∷ []) t out later stop
unlisted a b c xs who t out mid later status stop p q before h = record {
  opened = h.opened;
  done = λ clean L u. subst (IsUsable c) (grown b.warehouse a.warehouse L xs who t p.warehouse) (h.done clean _ (before.usable (clean_before b c q clean) L u));
  printed = λ clean L u.
      let early = clean_before b c q clean in
      let now = before.usable early L u in
      let W = a.warehouse in
      let line = subst (λ (U : Who). AppendsFront mid later (line_of who (reply_to Today U (accepted_on Today W L (enrolments t xs)) (Enrol who) t))) p.warehouse
      (h.printed clean _ now.keeps now.legal) in
      subst (AppendsFront out later) (sym (lines_more W L t xs who)) (front_second out mid later _ _ (before.printed early L u) line);
  why = h.why;
}

-- what stopped one stopped the list
list_stopped : (a b c : Standing) (whos : List Who) (i : ℕ) (who : Who) (t : Moment) (out mid later : Option (List ℕ)) (status : ExitStatus) (stop : CommandError) → GoesOn a b → GoesOn b c
    → a.shut ≡ b.shut → take (i + 1) whos ≡ take i whos ++ who ∷ [] → AreEnrolled a b (take i whos) t out mid status → IsStopped b c (Enrol who) t (line_of who) mid later stop
    → IsListStopped a c whos i t out later stop
list_stopped a b c whos i who t out mid later status stop p q same next before (inl h) = inl (unenrolled a b c (take i whos) t out mid later status stop p q same before h)
list_stopped a b c whos i who t out mid later status stop p q same next before (inr h) =
    inr (subst (λ (ws : List Who). IsUnlisted a c ws t out later stop) (sym next) (unlisted a b c (take i whos) who t out mid later status stop p q before h))

-- the list stops at one, after those that were handed in
pub stopped_at : (a b c : Standing) (whos : List Who) (i : ℕ) (who : Who) (t : Moment) (out mid later : Option (List ℕ)) (status : ExitStatus) (stop : CommandError) → GoesOn a b → GoesOn b c
    → a.shut ≡ b.shut → i < length whos → who ≡ get_or whos i who → AreEnrolled a b (take i whos) t out mid status
    → OfUsable b c (λ L. LeavesEither c L (after Today b.warehouse L (Enrol who, t)))
    → IsStopped b c (Enrol who) t (line_of who) mid later stop → AreEnrolledUntil a c whos t out later stop
stopped_at a b c whos i who t out mid later status stop p q same lt is before left why =
    let next = one_more whos i who lt is in
    record {
      count = i;
      within = lt;
      left = λ clean L u.
          let mid = before.usable (clean_before b c q clean) L u in
          subst (LeavesEither c (accepted_on Today a.warehouse L (enrolments t (take i whos))))
          (grown b.warehouse a.warehouse L (take i whos) who t p.warehouse ∙ sym (ap (λ ws. accepted_on Today a.warehouse L (enrolments t ws)) next))
          (left clean _ mid);
      stopped = list_stopped a b c whos i who t out mid later status stop p q same next before why;
    }
