-- Files that are handed in one after the other.
use Rattle.std.proofs.Common.{◌≡◌, ◌∙◌, sym, refl, ap, subst, ℕ, List, [], ◌∷◌, ◌++◌, String, Global, length, map, ◌⊎◌, inl, inr, take, string_bytes}
use Rattle.std.proofs.lemmas.List.{length-map, map-append}
use Rattle.std.proofs.lemmas.List.Elements.{All-nil, All-push}
use Rattle.std.specs.declared.io.ErrorKind.{ErrorKind}
use Rattle.definitions.specs.Rules.{Today}
use Rattle.definitions.specs.Moments.{Moment}
use Rattle.definitions.specs.Reply as replies
use Rattle.definitions.specs.Register.{Interchange}
use Rattle.definitions.specs.Accepted.{accepted_on, replies_on, reply_to}
use Rattle.store.specs.Standing.{Standing, IsUsable, GoesOn, LeavesEither, OfUsable}
use Rattle.store.proofs.Changes.{clean_before}
use Rattle.folders.specs.Answers.{IsBeside, IsFileBeside}
use Rattle.folders.specs.Folders.{Became, became, handed, AreTextsTaken}
use Rattle.folders.specs.Handed.{HandedFile, AreFilesHanded, IsFileHanded, IsStoppedWithin, IsUntaken}
use Rattle.folders.specs.Stops.{IsNext}
use Rattle.folders.proofs.Taking.{none_taken, taken_more, replies_more, either_usable, last_later, fault_of_later}
use Rattle.folders.specs.declared.file_system.EntryKind.{EntryKind}
use Rattle.folders.specs.declared.folder.FolderStop.{FolderStop}
use Rattle.folders.specs.declared.folder.Taken.{Taken}

-- an answer that was written, or that was there before as a file of its own
pub beside_of : (finds : List ℕ → EntryKind → Type 0) (reads : List ℕ → ℕ → List ℕ → Type 0) (writes : List ℕ → List ℕ → Type 0) (fails : List ℕ → ErrorKind → Type 0) (path text : List ℕ)
    → IsFileBeside finds reads writes fails path text → IsBeside reads writes path text
beside_of finds reads writes fails path text (inl file) = inl file.written
beside_of finds reads writes fails path text (inr there) = inr there.read

-- none was handed in yet
pub none_handed : (P : HandedFile → Type 0) (a : Standing) (t : Moment) → AreFilesHanded P a a t [] []
none_handed P a t = record {
  files = [];
  named = refl;
  each = All-nil P;
  replied = λ clean L u. refl;
  told_is = refl;
  taken = none_taken a t;
}

-- one file more
pub handed_in_more : (P : HandedFile → Type 0) (a b c : Standing) (t : Moment) (names : List (List ℕ)) (told : List Became) (name : List ℕ) (one : Became) → GoesOn a b → GoesOn b c
    → AreFilesHanded P a b t names told → IsFileHanded P b c t name one → AreFilesHanded P a c t (names ++ name ∷ []) (told ++ one ∷ [])
handed_in_more P a b c t names told name one p q before file =
    let one_file = file.file ∷ [] in
    let texts = map (λ (f : HandedFile). f.text) before.files in
    let text = file.file.text in record {
      files = before.files ++ one_file;
      named = map-append (λ (f : HandedFile). f.name) before.files one_file ∙ ap (λ (ns : List (List ℕ)). ns ++ file.file.name ∷ []) before.named ∙ ap (λ (n : List ℕ). names ++ n ∷ []) file.named;
      each = All-push P before.files file.file before.each file.each;
      replied = λ clean L u.
          let early = clean_before b c q clean in
          let mid = before.taken.usable early L u in
          map-append (λ (f : HandedFile). f.reply) before.files one_file
          ∙ ap (λ (rs : List replies.Reply). rs ++ file.file.reply ∷ []) (before.replied early L u)
          ∙ ap (λ (r : replies.Reply). replies_on Today a.warehouse L (handed t texts) ++ r ∷ []) (file.replied clean _ mid)
          ∙ ap (λ W. replies_on Today a.warehouse L (handed t texts) ++ reply_to Today W (accepted_on Today a.warehouse L (handed t texts)) (Interchange text) t ∷ []) p.warehouse
          ∙ sym (replies_more a.warehouse L t texts text)
          ∙ ap (λ (ts : List (List ℕ)). replies_on Today a.warehouse L (handed t ts)) (sym (map-append (λ (f : HandedFile). f.text) before.files one_file));
      told_is = ap (λ (bs : List Became). bs ++ one ∷ []) before.told_is
          ∙ ap (λ (x : Became). map (λ (f : HandedFile). became f.reply) before.files ++ x ∷ []) file.told_is
          ∙ sym (map-append (λ (f : HandedFile). became f.reply) before.files one_file);
      taken = subst (λ (ts : List (List ℕ)). AreTextsTaken a c t ts (told ++ one ∷ [])) (sym (map-append (λ (f : HandedFile). f.text) before.files one_file))
          (taken_more a b c t texts text told one p q before.taken file.taken);
    }

-- so many texts as names
pub texts_counted : (files : List HandedFile) (names : List (List ℕ)) (k : ℕ) → map (λ (f : HandedFile). f.name) files ≡ names → k ≡ length names → k ≡ length (map (λ (f : HandedFile). f.text) files)
texts_counted files names k named counted =
    counted ∙ ap length (sym named) ∙ length-map files (λ (f : HandedFile). f.name) ∙ sym (length-map files (λ (f : HandedFile). f.text))

text_or_none : (has : Type 0) (a b c : Standing) (t : Moment) (texts : List (List ℕ)) (told : List Became) → GoesOn b c → AreTextsTaken a b t texts told → has ⊎ OfUsable b c (λ L. IsUsable c L)
    → has ⊎ OfUsable a c (λ L. IsUsable c (accepted_on Today a.warehouse L (handed t texts)))
text_or_none has a b c t texts told q before (inl h) = inl h
text_or_none has a b c t texts told q before (inr h) = inr (λ clean L u. h clean _ (before.usable (clean_before b c q clean) L u))

-- a file at which the folder stops, after those that were handed in
pub stopped_within : (P : HandedFile → Type 0) (has : List ℕ → List ℕ → Type 0) (stop : FolderStop) (a b c : Standing) (t : Moment) (before_names : List (List ℕ)) (told : List Became) (names : List (String Global))
    → GoesOn a b → a.shut ≡ b.shut → GoesOn b c → AreFilesHanded P a b t before_names told → (next : IsNext stop names) → before_names ≡ map string_bytes (take stop.taken names)
    → stop.taken ≡ length before_names → IsUntaken (has (string_bytes next.0)) stop.fault b c t → IsStoppedWithin P has stop a c t names
stopped_within P has stop a b c t before_names told names p same q before next named counted file =
    let texts = map (λ (f : HandedFile). f.text) before.files in record {
      is_stop = record {
        stopped = record {
          texts = texts;
          last = file.last;
          taken = record {
            usable = λ clean L u opened.
                let mid = before.taken.usable (clean_before b c q clean) L u in
                either_usable c _ _ _ _ refl (last_later a b t texts file.last L p) (file.taken.usable clean _ mid opened);
            left = λ clean L u.
                let mid = before.taken.usable (clean_before b c q clean) L u in
                subst (LeavesEither c (accepted_on Today a.warehouse L (handed t texts))) (last_later a b t texts file.last L p) (file.taken.left clean _ mid);
          };
          why = fault_of_later a b c stop.fault t texts told p same q before.taken file.why;
        };
        counted = texts_counted before.files before_names stop.taken before.named counted;
      };
      next = next;
      files = before.files;
      texts = refl;
      named = before.named ∙ named;
      each = before.each;
      replied = λ clean L u. before.replied (clean_before b c q clean) L u;
      last = text_or_none (has (string_bytes next.0) file.last) a b c t texts told q before.taken file.text;
    }

-- Names and what became of files, as a loop has them.

-- what is told of one file more
pub told_more_of : {X : Type 0} (f : Taken → X) (xs ys zs : List Taken) (file : Taken) → ys ≡ xs → zs ≡ ys ++ file ∷ [] → map f xs ++ f file ∷ [] ≡ map f zs
told_more_of {X} f xs ys zs file kept grown = sym (ap (map f) (grown ∙ ap (λ (ts : List Taken). ts ++ file ∷ []) kept) ∙ map-append f xs (file ∷ []))

first_names : (files : List Taken) (rest : List (String Global)) → map (λ (f : Taken). string_bytes f.name) files ≡ map string_bytes (take (length files) (map (λ (f : Taken). f.name) files ++ rest))
first_names [] rest = refl
first_names (f ∷ files) rest = ap (λ (ns : List (List ℕ)). string_bytes f.name ∷ ns) (first_names files rest)

-- the names of the files that were taken are the first of all
pub names_before : (files : List Taken) (rest names : List (String Global)) (k : ℕ) → k ≡ length files → map (λ (f : Taken). f.name) files ++ rest ≡ names
    → map (λ (f : Taken). string_bytes f.name) files ≡ map string_bytes (take k names)
names_before files rest names k counted each =
    first_names files rest ∙ ap (λ (ns : List (String Global)). map string_bytes (take (length files) ns)) each ∙ ap (λ (n : ℕ). map string_bytes (take n names)) (sym counted)
