mod HearLemmas
