use Rattle.gu_depend.proofs.laws.terms_follow.Goals as goal
use Rattle.gu_depend.proofs
use proofs.{LastMoves.is_before, Replay.legal_list, TermsFollow.{apart_follows, nobody_follows, none_follow}}
use proofs.{TermsFollow.{put_follows, readied_follows, taken_follows, without_row}, Vocabulary.{[], ◌++◌, ◌∷◌}}

pub returns : goal.returns
returns c = record {
  new = none_follow;
  readied = λ t l v w g k are. readied_follows t l v are w g k;
  unready = λ t l v g k are. without_row t l v are g k;
  put = λ t l r v w g k d distinct legal.
      put_follows t l r (is_before t l r (legal_list t (l ++ r ∷ []) distinct legal)) v w g k d;
  apart = λ t l r v distinct legal. apart_follows t l r (is_before t l r (legal_list t (l ++ r ∷ []) distinct legal)) v;
  taken = λ t l k v w p distinct legal among free. taken_follows t l k (legal_list t l distinct legal) among free v w p;
  gone = λ t l k v distinct legal among free. nobody_follows t l k (legal_list t l distinct legal) among free v;
}
