-- Files that are taken one after the other.
use Rattle.std.proofs.Common.{◌≡◌, ◌∙◌, sym, refl, ap, subst, ℕ, true, false, List, [], ◌∷◌, ◌++◌, String, Global, length, map, ◌⊎◌, inl, inr, Result, Ok, Err, IfErr, Some, slice_get}
use Rattle.std.specs.Result.{IsErr, IsErrAnd}
use Rattle.std.proofs.lemmas.List.{append-nil}
use Rattle.definitions.specs.Rules.{Today}
use Rattle.definitions.specs.Header.{Who}
use Rattle.definitions.specs.Moments.{Moment}
use Rattle.definitions.specs.Register.{Entry, Command, Interchange}
use Rattle.definitions.specs.Reply as replies
use Rattle.definitions.specs.Accepted.{accepted_on, replies_on, after, reply_to}
use Rattle.store.specs.Standing.{Standing, IsUsable, KeepsLegal, IsFault, GoesOn, LeavesEither, OfKept, OfUsable}
use Rattle.store.specs.Fault.{Fault}
use Rattle.store.specs.Fault.TheVariants.{OutOfMemory, Store, Reopen, NotThisBook, Device}
use Rattle.store.proofs.Changes.{clean_before, leaves_first, refused_after, unchanged_refl, usable_stays}
use Rattle.store.proofs.Replies.{accepted_on-more, replies_on-more}
use Rattle.folders.specs.Folders.{Became, became, handed, IsDeviceFault, AreTextsTaken, IsFolderFault, IsFolderStopped}
use Rattle.folders.specs.Handed.{IsUntaken}
use Rattle.folders.specs.Stops.{IsFolderUnread, IsFolderStop}
use Rattle.folders.specs.declared.folder.FolderStop.{FolderStop}
use Rattle.folders.specs.declared.folder.Taken.{Taken}

handed_more : (t : Moment) (texts : List (List ℕ)) (text : List ℕ) → handed t (texts ++ text ∷ []) ≡ handed t texts ++ (Interchange text, t) ∷ []
handed_more t [] text = refl
handed_more t (x ∷ texts) text = ap (λ (cs : List (Command × Moment)). (Interchange x, t) ∷ cs) (handed_more t texts text)

became_more : (rs : List replies.Reply) (r : replies.Reply) → map became (rs ++ r ∷ []) ≡ map became rs ++ became r ∷ []
became_more [] r = refl
became_more (x ∷ rs) r = ap (λ (bs : List Became). became x ∷ bs) (became_more rs r)

-- the register and the replies after one text more
later_more : (W : Who) (L : List Entry) (t : Moment) (texts : List (List ℕ)) (text : List ℕ)
    → accepted_on Today W L (handed t (texts ++ text ∷ [])) ≡ after Today W (accepted_on Today W L (handed t texts)) (Interchange text, t)
later_more W L t texts text = ap (accepted_on Today W L) (handed_more t texts text) ∙ accepted_on-more Today W L (handed t texts) (Interchange text, t)

told_more : (W : Who) (L : List Entry) (t : Moment) (texts : List (List ℕ)) (text : List ℕ)
    → map became (replies_on Today W L (handed t (texts ++ text ∷ [])))
    ≡ map became (replies_on Today W L (handed t texts)) ++ became (reply_to Today W (accepted_on Today W L (handed t texts)) (Interchange text) t) ∷ []
told_more W L t texts text =
    ap (λ cs. map became (replies_on Today W L cs)) (handed_more t texts text)
    ∙ ap (map became) (replies_on-more Today W L (handed t texts) (Interchange text, t))
    ∙ became_more (replies_on Today W L (handed t texts)) (reply_to Today W (accepted_on Today W L (handed t texts)) (Interchange text) t)

pub replies_more : (W : Who) (L : List Entry) (t : Moment) (texts : List (List ℕ)) (text : List ℕ)
    → replies_on Today W L (handed t (texts ++ text ∷ [])) ≡ replies_on Today W L (handed t texts) ++ reply_to Today W (accepted_on Today W L (handed t texts)) (Interchange text) t ∷ []
replies_more W L t texts text = ap (replies_on Today W L) (handed_more t texts text) ∙ replies_on-more Today W L (handed t texts) (Interchange text, t)

-- Nothing was taken yet.

pub none_taken : (a : Standing) (t : Moment) → AreTextsTaken a a t [] []
none_taken a t = record { told_is = λ clean L u. refl; usable = λ clean L u. u; keeps = λ clean L k legal. record { keeps = k; legal = legal } }

-- One file more.

-- the register after the one text of a file, after those that were taken
pub last_later : (a b : Standing) (t : Moment) (texts : List (List ℕ)) (last : List ℕ) (L : List Entry) → GoesOn a b
    → after Today b.warehouse (accepted_on Today a.warehouse L (handed t texts)) (Interchange last, t) ≡ accepted_on Today a.warehouse L (handed t (texts ++ last ∷ []))
last_later a b t texts last L p =
    ap (λ W. after Today W (accepted_on Today a.warehouse L (handed t texts)) (Interchange last, t)) p.warehouse ∙ sym (later_more a.warehouse L t texts last)

pub taken_more : (a b c : Standing) (t : Moment) (texts : List (List ℕ)) (text : List ℕ) (told : List Became) (one : Became) → GoesOn a b → GoesOn b c
    → AreTextsTaken a b t texts told → AreTextsTaken b c t (text ∷ []) (one ∷ []) → AreTextsTaken a c t (texts ++ text ∷ []) (told ++ one ∷ [])
taken_more a b c t texts text told one p q before file = record {
  told_is = λ clean L u.
      let early = clean_before b c q clean in
      let mid = before.usable early L u in
      ap (λ (bs : List Became). bs ++ one ∷ []) (before.told_is early L u)
      ∙ ap (λ (bs : List Became). map became (replies_on Today a.warehouse L (handed t texts)) ++ bs) (file.told_is clean _ mid)
      ∙ ap (λ W. map became (replies_on Today a.warehouse L (handed t texts)) ++ became (reply_to Today W (accepted_on Today a.warehouse L (handed t texts)) (Interchange text) t) ∷ []) p.warehouse
      ∙ sym (told_more a.warehouse L t texts text);
  usable = λ clean L u.
      let mid = before.usable (clean_before b c q clean) L u in
      subst (IsUsable c) (last_later a b t texts text L p) (file.usable clean _ mid);
  keeps = λ clean L k legal.
      let mid = before.keeps (clean_before b c q clean) L k legal in
      subst (KeepsLegal c) (last_later a b t texts text L p) (file.keeps clean _ mid.keeps mid.legal);
}

-- Stops.

pub fault_of_later : (a b c : Standing) (fault : Fault) (t : Moment) (texts : List (List ℕ)) (told : List Became) → GoesOn a b → a.shut ≡ b.shut → GoesOn b c
    → AreTextsTaken a b t texts told → IsFolderFault fault b c → IsFolderFault fault a c
fault_of_later a b c fault t texts told p same q before why = record {
  grew = λ was is. refused_after a b c p (why.grew (sym same ∙ was) is);
  store = λ h. refused_after a b c p (why.store h);
  reopen = λ h. same ∙ why.reopen h;
  not_this = λ h clean L k legal.
      let mid = before.keeps (clean_before b c q clean) L k legal in
      why.not_this h clean _ mid.keeps mid.legal;
}

pub either_usable : (s : Standing) (M first second last : List Entry) → M ≡ first → last ≡ second → IsUsable s M ⊎ IsUsable s last → IsUsable s first ⊎ IsUsable s second
either_usable s M first second last p q (inl u) = inl (subst (IsUsable s) p u)
either_usable s M first second last p q (inr u) = inr (subst (IsUsable s) q u)

-- a fault of a device, or want of memory, after which the book is as it was
pub device_fault : (fault : Fault) (a : Standing) (b : Standing) → b.shut ≡ a.shut → IsDeviceFault fault → IsFolderFault fault a b
device_fault fault a b same (inl h) = record {
  grew = λ was is. absurd (let k : true ≡ false = sym is ∙ same ∙ was in cc (k));
  store = λ g. absurd (let k : OutOfMemory ≡ Store = sym h ∙ g in cc (k));
  reopen = λ g. absurd (let k : OutOfMemory ≡ Reopen = sym h ∙ g in cc (k));
  not_this = λ g clean L keeps legal. let k : OutOfMemory ≡ NotThisBook = sym h ∙ g in absurd (cc (k));
}
device_fault fault a b same (inr h) = record {
  grew = λ was is. absurd (let k : true ≡ false = sym is ∙ same ∙ was in cc (k));
  store = λ g. absurd (let k : Device ≡ Store = sym h ∙ g in cc (k));
  reopen = λ g. absurd (let k : Device ≡ Reopen = sym h ∙ g in cc (k));
  not_this = λ g clean L keeps legal. let k : Device ≡ NotThisBook = sym h ∙ g in absurd (cc (k));
}

-- the folder stops between two files
pub stopped_between : (a b : Standing) (fault : Fault) (t : Moment) (texts : List (List ℕ)) (told : List Became) → GoesOn a b → a.shut ≡ b.shut
    → AreTextsTaken a b t texts told → IsDeviceFault fault → IsFolderStopped fault a b t
stopped_between a b fault t texts told p same before why = record {
  texts = texts;
  last = [];
  taken = record {
    usable = λ clean L u opened. inl (before.usable clean L u);
    left = λ clean L u. leaves_first b _ _ (before.usable clean L u);
  };
  why = device_fault fault a b (sym same) why;
}

-- none was taken of a folder that can't be read
pub none_counted : (stop : FolderStop) (a : Standing) (t : Moment) → IsFolderUnread stop → IsFolderStop stop a a t
unfolding stopped_between
none_counted stop a t is = record {
  stopped = stopped_between a a stop.fault t [] [] (unchanged_refl a).goes refl (none_taken a t) is.why;
  counted = is.none_taken;
}

-- it stops after all files that there are
pub all_counted : (stop : FolderStop) (a b : Standing) (t : Moment) (texts : List (List ℕ)) (told : List Became) → GoesOn a b → a.shut ≡ b.shut → AreTextsTaken a b t texts told
    → IsDeviceFault stop.fault → stop.taken ≡ length texts → IsFolderStop stop a b t
unfolding stopped_between
all_counted stop a b t texts told p same taken why counted = record {
  stopped = stopped_between a b stop.fault t texts told p same taken why;
  counted = counted;
}

-- What one file comes to.

-- a reply to the text of a file
pub finish_taken : (a b : Standing) (t : Moment) (text : List ℕ) (reply : replies.Reply) (told : Became) → told ≡ became reply
    → OfUsable a b (λ L. reply ≡ reply_to Today a.warehouse L (Interchange text) t)
    → OfUsable a b (λ L. IsUsable b (after Today a.warehouse L (Interchange text, t)))
    → OfKept a b (λ L. KeepsLegal b (after Today a.warehouse L (Interchange text, t))) → AreTextsTaken a b t (text ∷ []) (told ∷ [])
finish_taken a b t text reply told is said goes keeps = record {
  told_is = λ clean L u. ap (λ (x : Became). x ∷ []) (is ∙ ap became (said clean L u));
  usable = goes;
  keeps = keeps;
}

-- a file that can't be read
pub unread : (has : List ℕ → Type 0) (a : Standing) (fault : Fault) (t : Moment) → IsDeviceFault fault → IsUntaken has fault a a t
unread has a fault t why = record {
  last = [];
  taken = record { usable = λ clean L u opened. inl u; left = λ clean L u. leaves_first a L _ u };
  text = inr (λ clean L u. u);
  why = device_fault fault a a refl why;
}

-- a fault of the book when a file is handed in
pub unsubmitted : (has : List ℕ → Type 0) (a b : Standing) (fault : Fault) (t : Moment) (text : List ℕ) → has text → IsFault fault a b
    → OfUsable a b (λ L. LeavesEither b L (after Today a.warehouse L (Interchange text, t))) → IsUntaken has fault a b t
unsubmitted has a b fault t text read f left = record {
  last = text;
  taken = record {
    usable = λ clean L u opened. inl (usable_stays a b (f.clean (opened ∙ sym u.opened)) clean L u);
    left = left;
  };
  text = inl read;
  why = record { grew = f.broken; store = f.why.store; reopen = f.why.reopen; not_this = λ h clean L k legal. f.why.not_this h clean L k };
}

-- an answer that can't be written
pub unanswered : (has : List ℕ → Type 0) (a b : Standing) (fault : Fault) (t : Moment) (text : List ℕ) → has text
    → OfUsable a b (λ L. IsUsable b (after Today a.warehouse L (Interchange text, t))) → a.shut ≡ b.shut → IsDeviceFault fault → IsUntaken has fault a b t
unanswered has a b fault t text read goes same why = record {
  last = text;
  taken = record {
    usable = λ clean L u opened. inr (goes clean L u);
    left = λ clean L u. let v = goes clean L u in record { stand = v.stand; each = λ M h. inr (v.only M h) };
  };
  text = inl read;
  why = device_fault fault a b (sym same) why;
}

-- a fault that is handed on
pub handed_on : {T E : Type 0} (r : Result T E) (P Q : E → Type 0) → IsErr r × IsErrAnd r Q → ((fault : E) → Q fault → P fault) → IfErr r P
handed_on (Ok x) P Q h k = tt
handed_on (Err e) P Q h k = k e h.1

-- one name goes over from those that are to come to those that were taken
names_on : (files : List Taken) (file : Taken) (more : List (String Global)) → map (λ f. f.name) (files ++ file ∷ []) ++ more ≡ map (λ f. f.name) files ++ file.name ∷ more
names_on [] file more = refl
names_on (f ∷ files) file more = ap (λ (ns : List (String Global)). f.name ∷ ns) (names_on files file more)

pub still_each : (files kept grown : List Taken) (file : Taken) (rest more : List (String Global)) → kept ≡ files → grown ≡ kept ++ file ∷ [] → rest ≡ file.name ∷ more
    → map (λ f. f.name) grown ++ more ≡ map (λ f. f.name) files ++ rest
still_each files kept grown file rest more same is next =
    ap (λ (fs : List Taken). map (λ f. f.name) fs ++ more) (is ∙ ap (λ (fs : List Taken). fs ++ file ∷ []) same) ∙ names_on files file more
    ∙ ap (λ (ns : List (String Global)). map (λ f. f.name) files ++ ns) (sym next)

-- the name after those of the files that were taken
name_after : (files : List Taken) (name : String Global) (more : List (String Global)) → slice_get (map (λ f. f.name) files ++ name ∷ more) (length files) ≡ Some name
name_after [] name more = refl
name_after (f ∷ files) name more = name_after files name more

pub next_name : (files : List Taken) (name : String Global) (rest more names : List (String Global)) → rest ≡ name ∷ more → map (λ f. f.name) files ++ rest ≡ names
    → slice_get names (length files) ≡ Some name
next_name files name rest more names next each =
    ap (λ (ns : List (String Global)). slice_get ns (length files)) (sym each ∙ ap (λ (ns : List (String Global)). map (λ f. f.name) files ++ ns) next) ∙ name_after files name more

-- of none more to come, they are all
pub all_each : (files : List Taken) (rest names : List (String Global)) → length rest ≡ 0 → map (λ f. f.name) files ++ rest ≡ names → map (λ f. f.name) files ≡ names
all_each files [] names e each = sym (append-nil (map (λ f. f.name) files)) ∙ each
all_each files (n ∷ rest) names e each = absurd (cc)
