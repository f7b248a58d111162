-- Laws of streams: the rest stays the same as further names are numbered.
use Rattle.std.proofs.Common.{refl}
use Rattle.srcset.specs.NameTable.{Texts, KeepsNumbers, NumbersOnce}
use Rattle.pp.specs.declared.stream.Pp.{Pp}
use Rattle.pp.specs.declared.stream.Stage.{Stage}
use Rattle.pp.specs.declared.stream.Stage.TheVariants.{Reads, Pulls, Ended, Refused}
use Rattle.srcset.specs.declared.refusal.Refusal.TheVariants.{Memory, At, Told}
use Rattle.macros.proofs.TableLemmas.{table_grows}
use Rattle.pp_expand.proofs.Streams.{knows_more}
use Rattle.pp.specs.Phase4.{Phase4}
use Rattle.pp.specs.Stream.{RestBy, ReadsBy, IsRest, IsStream}
use Rattle.pp.proofs.IncludeLemmas.{agrees_grows}
use Rattle.pp.proofs.StackLemmas.{waiting_grows}
use Rattle.pp.proofs.StateLemmas.{still_files, still_sound}
use Rattle.pp.specs.Laws.{StreamGrows, RestGrows}

reads_grow : (stage : Stage) (names after : Texts) (pp : Pp) → KeepsNumbers names after → ReadsBy stage names pp → ReadsBy stage after pp
reads_grow Reads names after pp keeps r = (
  still_sound names after pp.state pp.state keeps r.0 refl refl,
  record {
    stacked = record { few = r.1.stacked.few; reading = r.1.stacked.reading; waiting = waiting_grows names after pp.files.includers.items keeps r.1.stacked.waiting };
    has_files = still_files names after pp.files.innermost.file.run.tokens keeps r.1.has_files;
    idle = r.1.idle;
  },
  r.2,
)
reads_grow Pulls names after pp keeps r = (
  still_sound names after pp.state pp.state keeps r.0 refl refl,
  record {
    stacked = record { few = r.1.stacked.few; reading = r.1.stacked.reading; waiting = waiting_grows names after pp.files.includers.items keeps r.1.stacked.waiting };
    has_files = still_files names after pp.files.innermost.file.run.tokens keeps r.1.has_files;
    idle = r.1.idle;
  },
  r.2,
)
reads_grow Ended names after pp keeps r = tt
reads_grow (Refused refusal) names after pp keeps r = tt

-- a stream stays one
pub stream_grows : StreamGrows
stream_grows names after pp keeps s = record { few = s.few; reads = reads_grow pp.stage names after pp keeps s.reads }

by_stage : (stage : Stage) (names after texts : Texts) (pp : Pp) (rest : Phase4) → KeepsNumbers names after → NumbersOnce after → RestBy stage names texts pp rest → RestBy stage after texts pp rest
by_stage Reads names after texts pp rest keeps once r =
    let st = r.left.stands in
    record {
      outcome = r.outcome;
      left = record {
        inner = r.left.inner;
        stands = record {
          now = st.now;
          text = st.text;
          agrees = agrees_grows names after pp.state st.now keeps once st.agrees;
          run_is = st.run_is;
          fresh = st.fresh;
          active = st.active;
          comes_to = st.comes_to;
        };
        whole = r.left.whole;
      };
      rest_is = r.rest_is;
    }
by_stage Pulls names after texts pp rest keeps once r =
    let p = r.pulls in
    record {
      outcome = r.outcome;
      inner = r.inner;
      pulls = record {
        now = p.now;
        before = p.before;
        table_is = table_grows names after pp.state.table p.now.macros keeps once p.table_is;
        given_is = p.given_is;
        presumed_is = p.presumed_is;
        going = record { knows = knows_more names after keeps pp.run p.going.knows; end_is = p.going.end_is; not_refused = p.going.not_refused };
        comes_to = p.comes_to;
      };
      whole = r.whole;
      rest_is = r.rest_is;
    }
by_stage Ended names after texts pp rest keeps once r = r
by_stage (Refused Memory) names after texts pp rest keeps once r = r
by_stage (Refused (At c at)) names after texts pp rest keeps once r = r
by_stage (Refused (Told c at n)) names after texts pp rest keeps once r = r

-- the same is left
pub rest_grows : RestGrows
rest_grows names after texts pp rest keeps once r = by_stage pp.stage names after texts pp rest keeps once r
