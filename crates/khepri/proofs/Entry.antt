-- A run from the files at entry: the store is opened, and then the script is answered, or damage is reported.
use Rattle.std.proofs.Common.{◌≡◌, ◌≢◌, ℕ, ◌<◌, ◌≤◌, List, [], ◌∷◌, ◌++◌, Option, Some, None, refl, sym, ap, subst, ◌∙◌, inl, inr, ◌⊎◌, arith}
use Rattle.std.specs.Prelude.{IfSome, IsSome}
use Rattle.std.proofs.lemmas.Bool.{cases_eq}
use Rattle.std.proofs.lemmas.List.{append-nil}
use Rattle.std.proofs.lemmas.Option.{same_Some}
use Rattle.kh_io.specs.declared.files.Files.{Files}
use Rattle.kh_io.specs.Told.{Told, Kept, Extends, IsFrontOf}
use Rattle.kh_io.specs.Disk.{file_of, AreImages, TellsFiles}
use Rattle.kh_io.specs.View.{View}
use Rattle.kh_io.specs.Frames.{FileTold, FilesTold, FilesStay, StreamsStay, InputStays, During, OfView, Untouched}
use Rattle.kh_io.proofs.{both, weakened, told_map, told_both, kept_both}
use Rattle.kh_log.specs.Records.{Content}
use Rattle.kh_log.proofs.{content_of-short}
use Rattle.kh_read.specs.declared.form.Form.{Form}
use Rattle.kh_store.specs.State.{State, empty, text_of}
use Rattle.kh_store.specs.Recovery.{Recovery, Recovered, Damaged, ends, ReplaysUnless, Recovers}
use Rattle.kh_store.specs.Store.{IsShort, StaysOrShort, Opening}
use Rattle.khepri.specs.Session.{KeepsAnswered}
use Rattle.khepri.specs.Run.{Passed, Keeps, PartAnswered, NotBegun, Ran, Ends, damage_line, Runs, FindsDamage}
use Rattle.kh_store.proofs.{recovery_one, some_of, told_back, files_there}
use Rattle.khepri.proofs.Scripts.{script_exists}
use Rattle.khepri.proofs.Running.{Leaves, passed}

-- ---- files that are told

-- a read gives these files
abbrev pub AreSeen : View → Files → Type 0
AreSeen v files = (file : ℕ) → file < 4 → v.seen file ≡ Some (file_of files file)

-- what a read gives over an opening
pub record Reads (v w : View) : Type 0 where
  pub log : FileTold 1 v w StaysOrShort
  pub others : (file : ℕ) → file < 4 → file ≢ 1 → Kept (v.seen file) (w.seen file)

pub reads_tell : (v w : View) → Reads v w → TellsFiles w.seen → TellsFiles v.seen
reads_tell v w reads tells file lt = elim (cases_eq file 1) [
  | inl one ↦ subst (λ f. IsSome (v.seen f)) (sym one) (told_back _ (v.seen 1) (w.seen 1) reads.log (tells 1 (omega arith)))
  | inr other ↦ told_back _ (v.seen file) (w.seen file) (reads.others file lt other) (tells file lt)
]

-- ---- file 1 holds no log

short_recovers : (files : Files) → IsShort files.l0 → Recovers files (Recovered empty)
short_recovers files short =
    let none = content_of-short files.l0 short in
    subst (λ (c : Content). ReplaysUnless c.lacking c.records (Recovered empty)) (sym none) (ends empty)

-- the recovery of files that hold no log
short_is_empty : (v : View) (files : Files) (found : Recovery) → AreSeen v files → IfSome (v.seen 1) IsShort → Recovers files found → found ≡ Recovered empty
short_is_empty v files found are short recovers =
    recovery_one files found (Recovered empty) recovers (short_recovers files (some_of IsShort (v.seen 1) files.l0 (are 1 (omega arith)) short))

apart : (file offset : ℕ) → Damaged file offset ≡ Recovered empty → ⊥
apart file offset e = cc

-- ---- what a crash leaves while the store is opened

-- with what is left of file 1 that is all
all_left : (image : ℕ → List ℕ → Type 0) (files : Files) → image 1 files.l0 → ((file : ℕ) → file < 4 → file ≢ 1 → image file (file_of files file)) → AreImages image files
all_left image files log others file lt = elim (cases_eq file 1) [
  | inl one ↦ subst (λ f. image f (file_of files f)) (sym one) log
  | inr other ↦ others file lt other
]

opening_left : (v : View) (files : Files) (first : State) → AreSeen v files → Recovers files (Recovered first) → (left : Files) (s : ℕ) → Opening v left s
    → AreImages v.image left ⊎ Recovers left (Recovered first)
opening_left v files first are recovers left s opening = elim opening.own [
  | inl log ↦ inl (all_left v.image left log opening.others)
  | inr short ↦ inr (subst (Recovers left) (sym (short_is_empty v files (Recovered first) are short.1 recovers)) (short_recovers left short.0))
]

-- nothing was given yet
none_begun : (first : State) (forms : List Form) (from : ℕ) (left : Files) (s : ℕ) → s ≡ from → Recovers left (Recovered first) → KeepsAnswered first forms from left s
none_begun first forms from left s same recovers = record {
  k = 0;
  within = omega arith;
  recovers = recovers;
  answered = λ j lt begun. absurd (omega (arith, begun, same));
}

opening_keeps : (v : View) (files : Files) (first : State) (forms : List Form) → AreSeen v files → Recovers files (Recovered first) → (left : Files) (s : ℕ) → Opening v left s
    → OfView v left s ⊎ KeepsAnswered first forms v.stamp left s
opening_keeps v files first forms are recovers left s opening = elim (opening_left v files first are recovers left s opening) [
  | inl images ↦ inl (record { images = images; stamp = opening.stamp })
  | inr state ↦ inr (none_begun first forms v.stamp left s opening.stamp state)
]

damaged_left : (v : View) (files : Files) (file offset : ℕ) → AreSeen v files → Recovers files (Damaged file offset) → (left : Files) (s : ℕ) → Opening v left s → AreImages v.image left
damaged_left v files file offset are recovers left s opening = elim opening.own [
  | inl log ↦ all_left v.image left log opening.others
  | inr short ↦ absurd (apart file offset (short_is_empty v files (Damaged file offset) are short.1 recovers))
]

-- ---- an open store that answers the script

-- what a crash leaves of it, and of the opening before it
crash_opened : (first : State) (files : Files) (forms : List Form) (u v w : View) → AreSeen u files → Recovers files (Recovered first) → During (Opening u) u v → v.stamp ≡ u.stamp
    → Leaves first v → Keeps first forms v w → Keeps first forms u w
crash_opened first files forms u v w are recovers opening same leaves crash =
    both (weakened opening (opening_keeps u files first forms are recovers)) crash (λ left s is. elim is [
      | inl of ↦ inr (none_begun first forms u.stamp left s (of.stamp ∙ same) (leaves left of.images))
      | inr keeps ↦ inr (subst (λ (n : ℕ). KeepsAnswered first forms n left s) same keeps)
    ])

-- the same run with the opening before it
abbrev part_opened : (first : State) (files : Files) (forms : List Form) (given : List ℕ) (u v w : View) → AreSeen u files → Recovers files (Recovered first) → During (Opening u) u v
    → v.stamp ≡ u.stamp → Leaves first v → PartAnswered first forms given v w → PartAnswered first forms given u w
part_opened first files forms given u v w are recovers opening same leaves part = record {
  cut = part.cut;
  front = part.front;
  text = part.text;
  crash = crash_opened first files (part.cut.answered ++ part.cut.last) u v w are recovers opening same leaves part.crash;
}

none_opened : (first : State) (through : Passed) (u v w : View) → Leaves first v → NotBegun first through v w → NotBegun first through u w
none_opened first through u v w leaves none = record {
  input = none.input;
  none = none.none;
  images = λ files left. elim (none.images files left) [ inl images ↦ inr (leaves files images) | inr state ↦ inr state ];
}

ran_opened : (first : State) (status : ℕ) (files : Files) (through : Passed) (u v w : View) → AreSeen u files → Recovers files (Recovered first) → During (Opening u) u v
    → v.stamp ≡ u.stamp → Leaves first v → Ran first status through v w → Ran first status through u w
ran_opened first status files through u v w are recovers opening same leaves ran = record {
  forms = ran.forms;
  ending = ran.ending;
  script = ran.script;
  front = ran.front;
  how = ran.how;
  done = ran.done;
  syntax = ran.syntax;
  too_long = ran.too_long;
  read_fault = ran.read_fault;
  write_fault = λ is. part_opened first files ran.forms through.given u v w are recovers opening same leaves (ran.write_fault is);
  disk_fault = λ is. elim (ran.disk_fault is) [
    | inl none ↦ inl (none_opened first through u v w leaves none)
    | inr doubt ↦ inr (part_opened first files ran.forms through.given u v w are recovers opening same leaves doubt.0, doubt.1)
  ];
  no_memory = λ is. elim (ran.no_memory is) [
    | inl none ↦ inl (none_opened first through u v w leaves none)
    | inr part ↦ inr (part_opened first files ran.forms through.given u v w are recovers opening same leaves part)
  ];
  crash = crash_opened first files ran.forms u v w are recovers opening same leaves ran.crash;
  last = ran.last;
}

ends_opened : (first : State) (status : ℕ) (files : Files) (u v w : View) → AreSeen u files → Recovers files (Recovered first) → During (Opening u) u v → StreamsStay u v
    → Leaves first v → Ends first status v w → Ends first status u w
ends_opened first status files u v w are recovers opening streams leaves ran =
    told_both u.left v.left w.left streams.input ran (λ a b c same more. told_both u.given v.given w.given streams.sink more (λ x y z same' given. (
      given.0,
      given.1 ∙ ap (λ (t : List ℕ). t ++ given.0) same',
      subst (λ (i : List ℕ). Ran first status (passed i c given.0) u w) same
          (ran_opened first status files (passed b c given.0) u v w are recovers opening streams.stamp leaves given.2),
    )))

-- what a run does by what the files at entry recover to
abbrev pub RunsFrom : ℕ → (v w : View) → Type 0
RunsFrom status v w = FilesTold v w (λ files. (found : Recovery) → Recovers files found → Runs found status v w)

-- a run over files that recover to a state
pub runs_opened : (first : State) (status : ℕ) (u v w : View) → FilesTold u v (λ files. Recovers files (Recovered first)) → (TellsFiles w.seen → TellsFiles v.seen)
    → During (Opening u) u v → StreamsStay u v → Leaves first v → Ends first status v w → RunsFrom status u w
runs_opened first status u v w recovered told opening streams leaves ran = record {
  told = λ tells.
      let at_entry = recovered.told (told tells) in (
        at_entry.0,
        at_entry.1,
        λ found recovers. subst (λ (r : Recovery). Runs r status u w) (recovery_one at_entry.0 (Recovered first) found at_entry.2 recovers)
            (ends_opened first status at_entry.0 u v w at_entry.1 at_entry.2 opening streams leaves ran),
      );
}

-- ---- damage

kept_unless : {P : List ℕ → List ℕ → Type 0} (old new : Option (List ℕ)) → Told old new (λ was now. (now ≡ was) ⊎ P was now) → ((was now : List ℕ) → old ≡ Some was → P was now → ⊥) → Kept old new
kept_unless (Some was) (Some now) told other = elim told [ inl same ↦ same | inr p ↦ absurd (other was now refl p) ]
kept_unless None (Some now) told other = absurd told
kept_unless (Some was) None told other = tt
kept_unless None None told other = tt

-- a read gives what it gave, where the files are damaged
damaged_reads : (v w : View) (files : Files) (file offset : ℕ) → AreSeen v files → Recovers files (Damaged file offset) → Reads v w
    → (this : ℕ) → this < 4 → Kept (v.seen this) (w.seen this)
damaged_reads v w files file offset are recovers reads this lt = elim (cases_eq this 1) [
  | inl one ↦ subst (λ f. Kept (v.seen f) (w.seen f)) (sym one) (kept_unless (v.seen 1) (w.seen 1) reads.log (λ was now same short.
      let own : IsShort files.l0 = subst IsShort (same_Some was files.l0 (sym same ∙ are 1 (omega arith))) short.0 in
      apart file offset (recovery_one files (Damaged file offset) (Recovered empty) recovers (short_recovers files own))))
  | inr other ↦ reads.others this lt other
]

-- the report of damaged files, from its parts
pub runs_damaged : (file offset status : ℕ) (u v w : View) → FilesTold u v (λ files. Recovers files (Damaged file offset)) → Reads u v → FilesStay v w
    → During (Opening u) u v → During (Untouched v w) v w → ((files : Files) → AreImages v.image files → v.since u.moment files v.stamp) → StreamsStay u v → InputStays v w
    → Extends v.given w.given (λ given. IsFrontOf given (damage_line file offset) × (status ≡ 1 → given ≡ damage_line file offset)) → (status ≡ 1) ⊎ ((status ≡ 4) ⊎ (status ≡ 6))
    → RunsFrom status u w
runs_damaged file offset status u v w damaged reads stay opening reporting now streams input line how = record {
  told = λ tells.
      let told : TellsFiles v.seen = λ this lt. told_back _ (v.seen this) (w.seen this) (stay this lt).read (tells this lt) in
      let at_entry = damaged.told told in
      let were = damaged_left u at_entry.0 file offset at_entry.1 at_entry.2 in (
        at_entry.0,
        at_entry.1,
        λ found recovers. subst (λ (r : Recovery). Runs r status u w)
            (recovery_one at_entry.0 (Damaged file offset) found at_entry.2 recovers)
            (record {
              line = told_both u.given v.given w.given streams.sink line (λ x y z same given. (given.0, given.1 ∙ ap (λ (t : List ℕ). t ++ given.0) same, given.2));
              input = kept_both u.left v.left w.left streams.input input.input;
              reads = λ this lt. kept_both (u.seen this) (v.seen this) (w.seen this)
                  (damaged_reads u v at_entry.0 file offset at_entry.1 at_entry.2 reads this lt) (stay this lt).read;
              crash = both (weakened opening were) reporting (λ left s untouched. were left v.stamp (opening.each left v.stamp (now left untouched.images)));
              how = elim how [ inl is ↦ inl is | inr other ↦ inr (elim other [ inl is ↦ inl is | inr is ↦ inr (inr is) ]) ];
              disk_fault = λ e. absurd (elim how [ inl is ↦ omega arith | inr other ↦ elim other [ inl is ↦ omega arith | inr is ↦ omega arith ] ]);
            }),
      );
}

-- the damage that was reported is that of the files at entry
pub finds_damage : (file offset : ℕ) (u v w : View) → FilesTold u v (λ files. Recovers files (Damaged file offset)) → FilesStay v w → FilesTold u w FindsDamage
finds_damage file offset u v w damaged stay = record {
  told = λ tells.
      let at_entry = damaged.told (λ this lt. told_back _ (v.seen this) (w.seen this) (stay this lt).read (tells this lt)) in
      (at_entry.0, at_entry.1, (file, offset, at_entry.2));
}

-- ---- the store wasn't opened

-- a run that gave nothing
ran_nothing : (first : State) (status : ℕ) (files : Files) (input : List ℕ) (u w : View) → AreSeen u files → Recovers files (Recovered first)
    → During (Opening u) u w → ((left : Files) → AreImages w.image left → w.since u.moment left w.stamp) → (status ≡ 5) ⊎ (status ≡ 6)
    → Ran first status (passed input input []) u w
ran_nothing first status files input u w are recovers opening now why =
    let script = script_exists _ _ in
    let none : NotBegun first (passed input input []) u w = record {
      input = refl;
      none = refl;
      images = λ left images. opening_left u files first are recovers left w.stamp (opening.each left w.stamp (now left images));
    } in
    record {
      forms = script.0;
      ending = script.1;
      script = script.2;
      front = (text_of script.0 first, refl);
      how = inr (inr (inr why));
      done = λ e. absurd (elim why [ inl f ↦ omega arith | inr f ↦ omega arith ]);
      syntax = λ e. absurd (elim why [ inl f ↦ omega arith | inr f ↦ omega arith ]);
      too_long = λ e. absurd (elim why [ inl f ↦ omega arith | inr f ↦ omega arith ]);
      read_fault = λ e. absurd (elim why [ inl f ↦ omega arith | inr f ↦ omega arith ]);
      write_fault = λ e. absurd (elim why [ inl f ↦ omega arith | inr f ↦ omega arith ]);
      disk_fault = λ e. inl none;
      no_memory = λ e. inl none;
      crash = weakened opening (opening_keeps u files first script.0 are recovers);
      last = λ e. absurd (elim why [ inl f ↦ omega arith | inr f ↦ omega arith ]);
    }

runs_nothing : (found : Recovery) (status : ℕ) (files : Files) (u w : View) → AreSeen u files → Recovers files found → Reads u w → During (Opening u) u w
    → ((left : Files) → AreImages w.image left → w.since u.moment left w.stamp) → StreamsStay u w → (status ≡ 5) ⊎ (status ≡ 6) → Runs found status u w
runs_nothing (Recovered first) status files u w are recovers reads opening now streams why =
    told_map u.left w.left streams.input (λ a b same. told_map u.given w.given streams.sink (λ x y same'. (
      [],
      same' ∙ sym (append-nil x),
      subst (λ (r : List ℕ). Ran first status (passed a r []) u w) (sym same) (ran_nothing first status files a u w are recovers opening now why),
    )))
runs_nothing (Damaged file offset) status files u w are recovers reads opening now streams why = record {
  line = told_map u.given w.given streams.sink (λ x y same'. (
    [],
    same' ∙ sym (append-nil x),
    ((damage_line file offset, refl), λ e. absurd (elim why [ inl f ↦ omega arith | inr f ↦ omega arith ])),
  ));
  input = streams.input;
  reads = damaged_reads u w files file offset are recovers reads;
  crash = weakened opening (damaged_left u files file offset are recovers);
  how = inr (inr why);
  disk_fault = λ e. streams.sink;
}

-- a store that wasn't opened: the disk failed, or memory ran out
pub runs_unopened : (status : ℕ) (u w : View) → Reads u w → During (Opening u) u w → ((left : Files) → AreImages w.image left → w.since u.moment left w.stamp)
    → StreamsStay u w → (status ≡ 5) ⊎ (status ≡ 6) → RunsFrom status u w
runs_unopened status u w reads opening now streams why = record {
  told = λ tells.
      let files = files_there u.seen (reads_tell u w reads tells) in
      (files.0, files.1, λ found recovers. runs_nothing found status files.0 u w files.1 recovers reads opening now streams why);
}
